-- Each word is looked up in the table.
use Rattle.std.proofs.Common.{sym, ap}
use Rattle.script_reader.specs.Commands.{game_word}
use Rattle.script_reader.proofs.command_words.game_edit_of.Goals as goal

pub returns-in-grant : goal.returns-in-grant
returns-in-grant c = sym (ap game_word c.in-grant.is)

pub returns-in-revoke : goal.returns-in-revoke
returns-in-revoke c = sym (ap game_word c.in-revoke.is)

pub returns-in-forbid : goal.returns-in-forbid
returns-in-forbid c = sym (ap game_word c.in-forbid.is)

pub returns-in-permit : goal.returns-in-permit
returns-in-permit c = sym (ap game_word c.in-permit.is)

pub returns-in-milestone : goal.returns-in-milestone
returns-in-milestone c = sym (ap game_word c.in-milestone.is)

pub returns-in-unmilestone : goal.returns-in-unmilestone
returns-in-unmilestone c = sym (ap game_word c.in-unmilestone.is)

pub returns-in-ingredient : goal.returns-in-ingredient
returns-in-ingredient c = sym (ap game_word c.in-ingredient.is)

pub returns-in-product : goal.returns-in-product
returns-in-product c = sym (ap game_word c.in-product.is)

pub returns-in-unlock : goal.returns-in-unlock
returns-in-unlock c = sym (ap game_word c.in-unlock.is)

pub returns-in-time : goal.returns-in-time
returns-in-time c = sym (ap game_word c.in-time.is)

pub returns-in-enabled : goal.returns-in-enabled
returns-in-enabled c = sym (ap game_word c.in-enabled.is)
