-- Operands one after the other.
use Rattle.std.proofs.Common.{◌≡◌, ℕ, zero, suc, ◌+◌, ◌<◌, ◌≤◌, List, [], ◌∷◌, ◌++◌, drop, length, get_or, Bool, refl, sym, ap, subst, ◌∙◌, append_assoc, arith}
use Rattle.std.proofs.lemmas.List.{append-nil, at_drop_all, at_drop_more}
use Rattle.sat_base.specs.declared.width.Width.{Width}
use Rattle.operator_meaning.specs.declared.object.Object.{Object}
use Rattle.operator_meaning.specs.declared.site.SiteKind.{SiteKind}
use Rattle.ir_arena.specs.declared.node.Node.{Node}
use Rattle.ir_arena.specs.Placed.{tree_of, trees_at}
use Rattle.code_entries.specs.Entries.{entries_of_operands, entries_of_value}
use Rattle.code_pieces.specs.declared.piece.Piece.{Piece}
use Rattle.code_pieces.specs.Pieces.{Appends, Extends, all_entries, all_words}
use Rattle.code_stacks.specs.Places.{Layout}
use Rattle.expression_code.specs.Code.{convert_code, expression_code, first_width, fits_sixteen, operands_code, other_widths, widths_of}
use Rattle.expression_words.specs.Operands.{IsLeft}

after_drop : (widths : List Width) (i : ℕ) → other_widths (drop i widths) ≡ drop (suc i) widths
after_drop [] zero = refl
after_drop [] (suc i) = refl
after_drop (width ∷ widths) zero = refl
after_drop (width ∷ widths) (suc i) = after_drop widths i

other_drop : (widths : List Width) (i : ℕ) → other_widths (drop i widths) ≡ drop (i + 1) widths
other_drop widths i = let next : suc i ≡ i + 1 = omega arith in after_drop widths i ∙ ap (λ n. drop n widths) next

-- two steps of a list that grows, of what is left of it
steps : {A : Type 0} (old mid new xs ys zs all : List A) → mid ≡ old ++ xs → new ≡ mid ++ ys → old ++ ((xs ++ ys) ++ zs) ≡ all → new ++ zs ≡ all
steps old mid new xs ys zs all first second is =
    ap (λ v. v ++ zs) (second ∙ ap (λ v. v ++ ys) first ∙ append_assoc old xs ys) ∙ append_assoc old (xs ++ ys) zs ∙ is

module _ (objects : List Object) (l : Layout) (kind : SiteKind) (nodes : List Node) (depth : ℕ) (start : List Piece) where
  abbrev ws : List Width
  ws = widths_of kind

  next_words : (i : ℕ) (node : Node) → i < length nodes → node ≡ get_or nodes i node
      → operands_code objects l (drop i ws) (trees_at (drop i nodes)) (depth + i)
      ≡ (expression_code objects l (tree_of node) (depth + i) ++ convert_code objects l (first_width (drop i ws)) (fits_sixteen objects (tree_of node)) (depth + i)) ++ operands_code objects l (drop (i + 1) ws) (trees_at (drop (i + 1) nodes)) (depth + (i + 1))
  next_words i node within is =
      let above : depth + i + 1 ≡ depth + (i + 1) = omega arith in
      at_drop_more (λ (ns : List Node). operands_code objects l (drop i ws) (trees_at ns) (depth + i)) nodes i node within
      ∙ rw (sym is) (rw (other_drop ws i, above) refl)

  next_entries : (i : ℕ) (node : Node) → i < length nodes → node ≡ get_or nodes i node
      → entries_of_operands (trees_at (drop i nodes)) ≡ entries_of_value (tree_of node) ++ entries_of_operands (trees_at (drop (i + 1) nodes))
  next_entries i node within is = at_drop_more (λ (ns : List Node). entries_of_operands (trees_at ns)) nodes i node within ∙ rw (sym is) refl

  pub begins : IsLeft objects l kind nodes 0 depth start start
  begins = let none : depth + 0 ≡ depth = omega arith in record { as_words = rw (none) refl; as_entries = refl }

  pub goes_on : (i : ℕ) (node : Node) (at : ℕ) (width : Width) (shown : Bool) (old mid new : List Piece) → i < length nodes → node ≡ get_or nodes i node → at ≡ depth + i
      → width ≡ first_width (drop i ws) → shown ≡ fits_sixteen objects (tree_of node) → Appends old mid (expression_code objects l (tree_of node) at) (entries_of_value (tree_of node))
      → Extends mid new (convert_code objects l width shown at) → IsLeft objects l kind nodes i depth start old → IsLeft objects l kind nodes (i + 1) depth start new
  goes_on i node at width shown old mid new within is at_is width_is shown_is first second left =
      let one = subst (λ (n : ℕ). all_words mid ≡ all_words old ++ expression_code objects l (tree_of node) n) at_is first.as_words in
      let two = subst (λ (n : ℕ). all_words new ≡ all_words mid ++ convert_code objects l (first_width (drop i ws)) (fits_sixteen objects (tree_of node)) n) at_is
      (subst (λ (w : Width). all_words new ≡ all_words mid ++ convert_code objects l w (fits_sixteen objects (tree_of node)) at) width_is
      (subst (λ (b : Bool). all_words new ≡ all_words mid ++ convert_code objects l width b at) shown_is second.as_words)) in
      let rest = entries_of_operands (trees_at (drop (i + 1) nodes)) in
      record {
        as_words = steps (all_words old) (all_words mid) (all_words new) _ _ _ _ one two (ap (λ v. all_words old ++ v) (sym (next_words i node within is)) ∙ left.as_words);
        as_entries = ap (λ v. v ++ rest) (second.as_entries ∙ first.as_entries) ∙ append_assoc (all_entries old) (entries_of_value (tree_of node)) rest
            ∙ ap (λ v. all_entries old ++ v) (sym (next_entries i node within is)) ∙ left.as_entries;
      }

  pub ends : (i : ℕ) (now : List Piece) → length nodes ≤ i → IsLeft objects l kind nodes i depth start now
      → Appends start now (operands_code objects l ws (trees_at nodes) depth) (entries_of_operands (trees_at nodes))
  ends i now all left = record {
    as_words = sym (append-nil (all_words now)) ∙ ap (λ v. all_words now ++ v) (sym (at_drop_all (λ (ns : List Node). operands_code objects l (drop i ws) (trees_at ns) (depth + i)) nodes i all)) ∙ left.as_words;
    as_entries = sym (append-nil (all_entries now)) ∙ ap (λ v. all_entries now ++ v) (sym (at_drop_all (λ (ns : List Node). entries_of_operands (trees_at ns)) nodes i all)) ∙ left.as_entries;
  }
