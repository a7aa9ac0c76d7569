use Rattle.std.proofs.Common.{◌≡◌, rules, Some, codes}
use Rattle.serde_json.specs.Data.{number, unsigned}
use Rattle.serde_json.specs.Find.{get}
use Rattle.serde_json.specs.View.{view}
use Rattle.certificate_file.proofs.ReadingLemmas.{certificate_gives}
use Rattle.certificate_file.proofs.reading.certificate_in.Goals as goal

pub returns-in-Some : goal.returns-in-Some
returns-in-Some c =
    let found : get (codes "answers") (view c.args.value.now) ≡ Some (view c.in-Some.answers.now) = search rules in
    let version : get (codes "version") (view c.args.value.now) ≡ Some (number (unsigned 1)) = search rules in
    certificate_gives (view c.args.value.now) (view c.in-Some.answers.now) c.answers_in.result version found c.answers_in.ensures
