use Rattle.lawful_laws.proofs.laws.weights_are_known.Goals as goal

pub returns : goal.returns
returns c = λ program typed tied. tied.weights
