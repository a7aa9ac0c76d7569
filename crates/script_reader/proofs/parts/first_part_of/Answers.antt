use Rattle.std.proofs.Common.{rules}
use Rattle.script_reader.proofs.Readings.{answers_memory}
use Rattle.script_reader.proofs.PartLemmas.{no_first, no_fuel, no_at, no_module, no_in, no_beacon, no_key, fuel_there, at_there, module_there, in_there, beacon_there}
use Rattle.script_reader.proofs.parts.first_part_of.Goals as goal

pub returns-in_default : goal.returns-in_default
returns-in_default c = no_first c.args.words.now (search rules)

pub returns-in_default-front_one : goal.returns-in_default-front_one
returns-in_default-front_one c = no_fuel c.args.words.now c.in-Some.key.now c.in-Some.rest.now (search rules) (search rules) (search rules)

pub returns-in_default-front_one-2 : goal.returns-in_default-front_one-2
returns-in_default-front_one-2 c = no_at c.args.words.now c.in-Some.key.now c.in-Some.rest.now (search rules) (search rules) (search rules)

pub returns-in_default-front_two : goal.returns-in_default-front_two
returns-in_default-front_two c = no_module c.args.words.now c.in-Some.key.now c.in-Some.rest.now (search rules) (search rules) (search rules)

pub returns-in_default-front_two-2 : goal.returns-in_default-front_two-2
returns-in_default-front_two-2 c = no_in c.args.words.now c.in-Some.key.now c.in-Some.rest.now (search rules) (search rules) (search rules)

pub returns-in_default-front_three : goal.returns-in_default-front_three
returns-in_default-front_three c = no_beacon c.args.words.now c.in-Some.key.now c.in-Some.rest.now (search rules) (search rules) (search rules)

pub returns-in_default-copy_text : goal.returns-in_default-copy_text
returns-in_default-copy_text c = answers_memory _

pub returns-in-Ok : goal.returns-in-Ok
returns-in-Ok c = fuel_there c.args.words.now c.in-Some.key.now _ c.in-Ok.item c.in-Some.rest.now _ (search rules) (search rules) c.in-Some-front_one.ensures c.in-Ok.ensures

pub returns-in-Err : goal.returns-in-Err
returns-in-Err c = answers_memory _

pub returns-in-Ok-copy_text : goal.returns-in-Ok-copy_text
returns-in-Ok-copy_text c = at_there c.args.words.now c.in-Some.key.now _ c.in-Ok-copy_text.fluid c.in-Some.rest.now _ (search rules) (search rules) c.in-Some-front_one-2.ensures c.in-Ok-copy_text.ensures

pub returns-in-Err-copy_text : goal.returns-in-Err-copy_text
returns-in-Err-copy_text c = answers_memory _

pub returns-in-Ok-two_copies : goal.returns-in-Ok-two_copies
returns-in-Ok-two_copies c = module_there c.args.words.now c.in-Some.key.now _ _ c.in-Ok-two_copies.item c.in-Ok-two_copies.number c.in-Some.rest.now _ (search rules) (search rules) c.in-Some-front_two.ensures c.in-Ok-two_copies.ensures

pub returns-in-Err-two_copies : goal.returns-in-Err-two_copies
returns-in-Err-two_copies c = answers_memory _

pub returns-in-Ok-two_copies-2 : goal.returns-in-Ok-two_copies-2
returns-in-Ok-two_copies-2 c = in_there c.args.words.now c.in-Some.key.now _ _ c.in-Ok-two_copies-2.item c.in-Ok-two_copies-2.number c.in-Some.rest.now _ (search rules) (search rules) c.in-Some-front_two-2.ensures c.in-Ok-two_copies-2.ensures

pub returns-in-Err-two_copies-2 : goal.returns-in-Err-two_copies-2
returns-in-Err-two_copies-2 c = answers_memory _

pub returns-in-Ok-two_copies-3 : goal.returns-in-Ok-two_copies-3
returns-in-Ok-two_copies-3 c = beacon_there c.args.words.now c.in-Some.key.now _ _ _ c.in-Ok-copy_text-2.machine c.in-Ok-two_copies-3.number c.in-Ok-two_copies-3.share c.in-Some.rest.now _ (search rules) (search rules) c.in-Some-front_three.ensures c.in-Ok-copy_text-2.ensures c.in-Ok-two_copies-3.ensures

pub returns-in-Err-two_copies-3 : goal.returns-in-Err-two_copies-3
returns-in-Err-two_copies-3 c = answers_memory _

pub returns-in_default-as_str : goal.returns-in_default-as_str
returns-in_default-as_str c = no_key c.args.words.now c.in-Some.key.now c.in-Some.rest.now (search rules) (search rules) (search rules) (search rules) (search rules) (search rules)
