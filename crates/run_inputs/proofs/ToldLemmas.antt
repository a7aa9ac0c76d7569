-- An early end that has no line of its own.
use Rattle.std.proofs.Common.{◌≢◌, [], ℕ, List, false, refl}
use Rattle.std.specs.Prelude.{Option}
use Rattle.plan_io.specs.Writing.{Adds}
use Rattle.run_inputs.specs.declared.status.Status.{Status}
use Rattle.run_inputs.specs.declared.status.Status.TheVariants.{Done, SomeRefused, BadWords, BadDump, ReadFault, WriteFault, NoMemory, TooLong, BadCert}
use Rattle.run_inputs.specs.Early.{Tells}

-- nothing is written
pub tells_itself : (early : Status) (written : Option (List ℕ)) → early ≢ WriteFault → early ≢ BadWords → ((fault : _) → early ≢ BadDump fault) → ((long : _) → early ≢ TooLong long) → ((fault : _) → early ≢ BadCert fault)
    → Adds false written written [] → Tells early written written early
tells_itself Done written cut words dump long cert adds = record { text = []; told = (refl, refl); adds = adds }
tells_itself SomeRefused written cut words dump long cert adds = record { text = []; told = (refl, refl); adds = adds }
tells_itself BadWords written cut words dump long cert adds = absurd (words refl)
tells_itself (BadDump fault) written cut words dump long cert adds = absurd (dump fault refl)
tells_itself ReadFault written cut words dump long cert adds = record { text = []; told = (refl, refl); adds = adds }
tells_itself WriteFault written cut words dump long cert adds = absurd (cut refl)
tells_itself NoMemory written cut words dump long cert adds = record { text = []; told = refl; adds = adds }
tells_itself (TooLong long) written cut words dump many cert adds = absurd (many long refl)
tells_itself (BadCert fault) written cut words dump long cert adds = absurd (cert fault refl)
