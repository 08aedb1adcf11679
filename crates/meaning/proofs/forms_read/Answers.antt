use Rattle.meaning.proofs.Reading.{forms_read}
use Rattle.meaning.proofs.forms_read.Goals as goal

pub returns : goal.returns
returns c = forms_read
