use Rattle.std.proofs.Common.{rules, ◌≡◌, List, ap, sym, ◌∙◌, subst, refl}
use Rattle.std.specs.Prelude.{map}
use Rattle.c_grammar.specs.declared.spot.Spot as declared
use Rattle.c_grammar.specs.Programs.{stream_of}
use Rattle.c_grammar.specs.Spots.{Spot, seen}
use Rattle.token_reader.specs.Gives.{Fails}
use Rattle.c_reader.proofs.ReadWhole.{whole_at, whole_tree, whole_refused}
use Rattle.c_reader.proofs.program.read.Goals as goal

pub returns-in_err-items-clause-refused : goal.returns-in_err-items-clause-refused
returns-in_err-items-clause-refused c =
    let start : map seen c.as_slice.result.now ≡ stream_of c.args.tokens.now = ap (λ (x : List declared.Spot). map seen x) c.as_slice.ensures.value ∙ c.in_ok-spots.ensures in
    let fails = subst (λ (i : List Spot). Fails (whole_at i) c.in_err-items.field-0.0) start c.in_err-items.ensures in
    let refused = whole_refused c.args.tokens.now c.in_err-items.field-0.0 fails in
    search rules

pub returns-clause-tree : goal.returns-clause-tree
returns-clause-tree c =
    let start : map seen c.as_slice.result.now ≡ stream_of c.args.tokens.now = ap (λ (x : List declared.Spot). map seen x) c.as_slice.ensures.value ∙ c.in_ok-spots.ensures in
    let read = ap whole_at (sym start) ∙ c.in_ok-items.ensures.1 in
    let tree = whole_tree c.args.tokens.now c.in_ok-items.items c.in_ok-items.ensures.0 read in
    record { items = record { some = tree.some; depth = tree.depth; spelled = tree.spelled }; end_tok = c.len.ensures; end = refl }

pub returns-clause-shallow : goal.returns-clause-shallow
returns-clause-shallow c =
    let start : map seen c.as_slice.result.now ≡ stream_of c.args.tokens.now = ap (λ (x : List declared.Spot). map seen x) c.as_slice.ensures.value ∙ c.in_ok-spots.ensures in
    let read = ap whole_at (sym start) ∙ c.in_ok-items.ensures.1 in
    let tree = whole_tree c.args.tokens.now c.in_ok-items.items c.in_ok-items.ensures.0 read in
    tree.within
