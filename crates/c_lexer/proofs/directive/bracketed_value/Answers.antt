use Rattle.std.proofs.Common.{◌≡◌, [], ◌∷◌, ◌++◌, map, IfOk, Option, ℤ, sym, ap, subst, ◌∙◌}
use Rattle.std.proofs.lemmas.List.{map-append, nil_from_length}
use Rattle.c_lexer.specs.Views.{part_of, names_of}
use Rattle.c_lexer.proofs.Facts.{bracketed_yes, bracketed_no, bracketed_none}
use Rattle.c_lexer.proofs.directive.bracketed_value.Goals as goal

pub returns-in-Some : goal.returns-in-Some
returns-in-Some c =
    let parts : map part_of c.args.rest.now ≡ map part_of c.in-Some.inner.now ++ part_of c.in-Some.last.now ∷ [] = ap (map part_of) c.in-Some.ensures.cases.0 ∙ map-append part_of c.in-Some.inner.now (c.in-Some.last.now ∷ []) in
    let value = bracketed_yes (names_of c.args.names.now) (part_of c.args.first) (map part_of c.in-Some.inner.now) (part_of c.in-Some.last.now) (map part_of c.args.rest.now) parts (sym c.is.ensures ∙ c.if-is.true) (sym c.is-then-is.ensures ∙ c.if-is-2.true) in
    subst (λ (x : Option ℤ). IfOk c.expression_value.result (λ value. value ≡ x)) (sym value) c.expression_value.ensures

pub returns-in_default : goal.returns-in_default
returns-in_default c =
    let parts : map part_of c.args.rest.now ≡ map part_of c.in-Some.inner.now ++ part_of c.in-Some.last.now ∷ [] = ap (map part_of) c.in-Some.ensures.cases.0 ∙ map-append part_of c.in-Some.inner.now (c.in-Some.last.now ∷ []) in
    sym (bracketed_no (names_of c.args.names.now) (part_of c.args.first) (map part_of c.in-Some.inner.now) (part_of c.in-Some.last.now) (map part_of c.args.rest.now) parts (sym c.is.ensures ∙ c.if-is.true) (sym c.is-then-is.ensures ∙ c.if-is-2.false))

pub returns-in_default-3 : goal.returns-in_default-3
returns-in_default-3 c =
    let empty = rw c.in_default.is at c.split_last.ensures.cases in
    sym (bracketed_none (names_of c.args.names.now) (part_of c.args.first) (map part_of c.args.rest.now) (ap (map part_of) (nil_from_length c.args.rest.now empty)))
