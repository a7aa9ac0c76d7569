use Rattle.game_types.proofs.ChoiceLaws.{choice_fits, no_choice_no_fit, no_fit_no_choice}
use Rattle.game_types.proofs.choices.choices_are_fits.Goals as goal

pub returns-clause-fit : goal.returns-clause-fit
returns-clause-fit c = λ g at good low high choice is. choice_fits g good low high at choice is

pub returns-clause-none : goal.returns-clause-none
returns-clause-none c = λ g at good low high. (no_choice_no_fit g good low high at, no_fit_no_choice g good low high at)
