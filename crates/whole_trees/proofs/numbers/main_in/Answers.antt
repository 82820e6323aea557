use Rattle.whole_trees.proofs.numbers.main_in.Goals as goal

pub returns : goal.returns
returns c = rw (c.in_ok-main.ensures, c.main_of.ensures, c.as_slice.ensures) at c.number_in.ensures
