-- Each word is looked up in the table.
use Rattle.std.proofs.Common.{sym, ap}
use Rattle.script_reader.specs.Commands.{question_word}
use Rattle.script_reader.proofs.command_words.question_of.Goals as goal

pub returns-in-reach : goal.returns-in-reach
returns-in-reach c = sym (ap question_word c.in-reach.is)

pub returns-in-why : goal.returns-in-why
returns-in-why c = sym (ap question_word c.in-why.is)

pub returns-in-missing : goal.returns-in-missing
returns-in-missing c = sym (ap question_word c.in-missing.is)

pub returns-in-mask : goal.returns-in-mask
returns-in-mask c = sym (ap question_word c.in-mask.is)

pub returns-in-list : goal.returns-in-list
returns-in-list c = sym (ap question_word c.in-list.is)

pub returns-in-milestones : goal.returns-in-milestones
returns-in-milestones c = sym (ap question_word c.in-milestones.is)

pub returns-in-summary : goal.returns-in-summary
returns-in-summary c = sym (ap question_word c.in-summary.is)

pub returns-in-rate : goal.returns-in-rate
returns-in-rate c = sym (ap question_word c.in-rate.is)

pub returns-in-solve : goal.returns-in-solve
returns-in-solve c = sym (ap question_word c.in-solve.is)
