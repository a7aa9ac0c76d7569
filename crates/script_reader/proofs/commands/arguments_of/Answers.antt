use Rattle.std.proofs.Common.{sym, subst}
use Rattle.script_reader.specs.declared.command_words.CommandWord.{CommandWord}
use Rattle.script_reader.specs.Reading.{Answers}
use Rattle.script_reader.specs.Arguments.{arguments}
use Rattle.script_reader.proofs.Readings.{answers_mapped, answers_edit}
use Rattle.script_reader.proofs.commands.arguments_of.Goals as goal

pub returns-in-Reach : goal.returns-in-Reach
returns-in-Reach c = subst (λ (w : CommandWord). Answers (arguments w c.args.words.now) c.map.result) (sym c.in-Reach.is) (answers_mapped _ _ _ _ c.node.ensures c.map.ensures.cases)

pub returns-in-Why : goal.returns-in-Why
returns-in-Why c = subst (λ (w : CommandWord). Answers (arguments w c.args.words.now) c.map-in-Why.result) (sym c.in-Why.is) (answers_mapped _ _ _ _ c.node-in-Why.ensures c.map-in-Why.ensures.cases)

pub returns-in-Missing : goal.returns-in-Missing
returns-in-Missing c = subst (λ (w : CommandWord). Answers (arguments w c.args.words.now) c.map-in-Missing.result) (sym c.in-Missing.is) (answers_mapped _ _ _ _ c.node-in-Missing.ensures c.map-in-Missing.ensures.cases)

pub returns-in-Mask : goal.returns-in-Mask
returns-in-Mask c = subst (λ (w : CommandWord). Answers (arguments w c.args.words.now) c.map-in-Mask.result) (sym c.in-Mask.is) (answers_mapped _ _ _ _ c.node-in-Mask.ensures c.map-in-Mask.ensures.cases)

pub returns-in-List : goal.returns-in-List
returns-in-List c = subst (λ (w : CommandWord). Answers (arguments w c.args.words.now) c.map-in-List.result) (sym c.in-List.is) (answers_mapped _ _ _ _ c.kind.ensures c.map-in-List.ensures.cases)

pub returns-in-Quiet : goal.returns-in-Quiet
returns-in-Quiet c = subst (λ (w : CommandWord). Answers (arguments w c.args.words.now) c.map-in-Quiet.result) (sym c.in-Quiet.is) (answers_mapped _ _ _ _ c.switch.ensures c.map-in-Quiet.ensures.cases)

pub returns-in-Grant : goal.returns-in-Grant
returns-in-Grant c = subst (λ (w : CommandWord). Answers (arguments w c.args.words.now) c.map-in-Grant-2.result) (sym c.in-Grant.is) (answers_edit _ _ _ _ _ _ c.node-in-Grant.ensures c.map-in-Grant.ensures.cases c.map-in-Grant-2.ensures.cases)

pub returns-in-Revoke : goal.returns-in-Revoke
returns-in-Revoke c = subst (λ (w : CommandWord). Answers (arguments w c.args.words.now) c.map-in-Revoke-2.result) (sym c.in-Revoke.is) (answers_edit _ _ _ _ _ _ c.node-in-Revoke.ensures c.map-in-Revoke.ensures.cases c.map-in-Revoke-2.ensures.cases)

pub returns-in-Forbid : goal.returns-in-Forbid
returns-in-Forbid c = subst (λ (w : CommandWord). Answers (arguments w c.args.words.now) c.map-in-Forbid-2.result) (sym c.in-Forbid.is) (answers_edit _ _ _ _ _ _ c.node-in-Forbid.ensures c.map-in-Forbid.ensures.cases c.map-in-Forbid-2.ensures.cases)

pub returns-in-Permit : goal.returns-in-Permit
returns-in-Permit c = subst (λ (w : CommandWord). Answers (arguments w c.args.words.now) c.map-in-Permit-2.result) (sym c.in-Permit.is) (answers_edit _ _ _ _ _ _ c.node-in-Permit.ensures c.map-in-Permit.ensures.cases c.map-in-Permit-2.ensures.cases)

pub returns-in-Milestone : goal.returns-in-Milestone
returns-in-Milestone c = subst (λ (w : CommandWord). Answers (arguments w c.args.words.now) c.map-in-Milestone-2.result) (sym c.in-Milestone.is) (answers_edit _ _ _ _ _ _ c.node-in-Milestone.ensures c.map-in-Milestone.ensures.cases c.map-in-Milestone-2.ensures.cases)

pub returns-in-Unmilestone : goal.returns-in-Unmilestone
returns-in-Unmilestone c = subst (λ (w : CommandWord). Answers (arguments w c.args.words.now) c.map-in-Unmilestone-2.result) (sym c.in-Unmilestone.is) (answers_edit _ _ _ _ _ _ c.node-in-Unmilestone.ensures c.map-in-Unmilestone.ensures.cases c.map-in-Unmilestone-2.ensures.cases)

pub returns-in-Table : goal.returns-in-Table
returns-in-Table c = subst (λ (w : CommandWord). Answers (arguments w c.args.words.now) c.map-in-Table-2.result) (sym c.in-Table.is) (answers_edit _ _ _ _ _ _ c.text.ensures c.map-in-Table.ensures.cases c.map-in-Table-2.ensures.cases)

pub returns-in-Untable : goal.returns-in-Untable
returns-in-Untable c = subst (λ (w : CommandWord). Answers (arguments w c.args.words.now) c.map-in-Untable-2.result) (sym c.in-Untable.is) (answers_edit _ _ _ _ _ _ c.text-in-Untable.ensures c.map-in-Untable.ensures.cases c.map-in-Untable-2.ensures.cases)
