use Rattle.sample_files.proofs.Bytes.{have_one_spelling}
use Rattle.sample_files.proofs.laws.samples_have_one_spelling.Goals as goal

pub returns : goal.returns
returns c = have_one_spelling
