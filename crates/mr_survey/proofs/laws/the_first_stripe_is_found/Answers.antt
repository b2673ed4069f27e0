use Rattle.mr_survey.proofs.SurveyLaws.{finds-first}
use Rattle.mr_survey.proofs.laws.the_first_stripe_is_found.Goals as goal

pub returns : goal.returns
returns c = λ d damage. finds-first d damage
