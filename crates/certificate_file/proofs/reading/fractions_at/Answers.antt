use Rattle.std.proofs.Common.{◌≡◌, rules, Some}
use Rattle.serde_json.specs.Find.{get}
use Rattle.serde_json.specs.View.{view}
use Rattle.certificate_file.specs.Said.{SaysFraction, SaysList}
use Rattle.certificate_file.proofs.ReadingLemmas.{member_gives}
use Rattle.certificate_file.proofs.reading.fractions_at.Goals as goal

pub returns-in-Some : goal.returns-in-Some
returns-in-Some c =
    let found : get c.args.key.now (view c.args.value.now) ≡ Some (view c.in-Some.member.now) = search rules in
    member_gives (SaysList SaysFraction) c.args.key.now (view c.args.value.now) (view c.in-Some.member.now) c.fractions_in.result found c.fractions_in.ensures
