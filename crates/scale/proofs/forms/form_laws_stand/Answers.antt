use Rattle.scale.proofs.Written.{form_laws}
use Rattle.scale.proofs.forms.form_laws_stand.Goals as goal

pub returns : goal.returns
returns g c = form_laws g.S.Scale.has g.S.Recorded.form g.met.S.Recorded.one_form
