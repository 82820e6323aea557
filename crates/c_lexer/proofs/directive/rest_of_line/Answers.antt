use Rattle.std.proofs.Common.{◌≡◌, ℕ, ◌+◌, ◌-◌, ◌≤◌, List, [], ◌∷◌, ◌++◌, length, take, drop, map, Some, None, false, sym, ap, subst, ◌∙◌, arith}
use Rattle.std.proofs.lemmas.List.{take_rest, map-append}
use Rattle.c_lexer.specs.declared.expression.Part.{Part as Borrowed}
use Rattle.c_lexer.specs.Directive.{next_in_line}
use Rattle.c_lexer.specs.Expression.{Part}
use Rattle.c_lexer.specs.Views.{part_of}
use Rattle.c_lexer.proofs.Lines.{IsReadTo, reads_nothing, reads_blank, reads_part, reads_all}
use Rattle.c_lexer.proofs.directive.rest_of_line.Goals as goal

pub loop-piece-init : goal.loop-piece-init
loop-piece-init c = subst (λ (xs : List Borrowed). IsReadTo c.args.text.now (map part_of xs) false 0) (sym c.new-parts.ensures.items) (reads_nothing c.args.text.now)

pub loop-piece-preserved-then-is_blank : goal.loop-piece-preserved-then-is_blank
loop-piece-preserved-then-is_blank c =
    let found : next_in_line (drop c.loop-piece.len c.args.text.now) ≡ Some c.in-Some.piece = rw take_rest at (sym c.in-Some.ensures.value) in
    let inside : c.in-Some.piece.len ≤ length (drop c.loop-piece.len c.args.text.now) = rw take_rest at c.in-Some.ensures.within in
    reads_blank c.args.text.now (map part_of c.loop-piece.parts.items) c.loop-piece.spaced c.loop-piece.len c.in-Some.piece c.loop-piece.invariant found inside (sym c.is_blank.ensures ∙ c.if-is_blank.true)

pub loop-piece-preserved : goal.loop-piece-preserved
loop-piece-preserved c =
    let found : next_in_line (drop c.loop-piece.len c.args.text.now) ≡ Some c.in-Some.piece = rw take_rest at (sym c.in-Some.ensures.value) in
    let inside : c.in-Some.piece.len ≤ length (drop c.loop-piece.len c.args.text.now) = rw take_rest at c.in-Some.ensures.within in
    let long : c.loop-piece.len + c.in-Some.piece.len - c.loop-piece.len ≡ c.in-Some.piece.len = omega arith in
    let more : map part_of c.push.new.self.items ≡ map part_of c.loop-piece.parts.items ++ record { kind = c.in-Some.piece.kind; bytes = take c.in-Some.piece.len (drop c.loop-piece.len c.args.text.now); spaced = c.loop-piece.spaced } ∷ [] =
    ap (map part_of) c.in_ok-push.ensures.items ∙ map-append part_of c.loop-piece.parts.items _
    ∙ ap (λ (n : ℕ). map part_of c.loop-piece.parts.items ++ record { kind = c.in-Some.piece.kind; bytes = take n (drop c.loop-piece.len c.args.text.now); spaced = c.loop-piece.spaced } ∷ []) long
    in
    subst (λ (parts : List Part). IsReadTo c.args.text.now parts false (c.loop-piece.len + c.in-Some.piece.len)) (sym more)
    (reads_part c.args.text.now (map part_of c.loop-piece.parts.items) c.loop-piece.spaced c.loop-piece.len c.in-Some.piece c.loop-piece.invariant found inside (sym c.is_blank.ensures ∙ c.if-is_blank.false))

pub returns-clause-parts : goal.returns-clause-parts
returns-clause-parts c =
    let none : next_in_line (drop c.loop-piece.len c.args.text.now) ≡ None = rw take_rest at (sym c.in_default.ensures.value) in
    sym (reads_all c.args.text.now (map part_of c.loop-piece.parts.items) c.loop-piece.spaced c.loop-piece.len c.loop-piece.invariant none).0

pub returns-clause-len : goal.returns-clause-len
returns-clause-len c =
    let none : next_in_line (drop c.loop-piece.len c.args.text.now) ≡ None = rw take_rest at (sym c.in_default.ensures.value) in
    sym (reads_all c.args.text.now (map part_of c.loop-piece.parts.items) c.loop-piece.spaced c.loop-piece.len c.loop-piece.invariant none).1
