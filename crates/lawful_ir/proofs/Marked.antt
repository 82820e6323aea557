-- What stands in the tree of each kind of expression is what stands in that expression.
use Rattle.std.proofs.Common.{◌≡◌, ℕ, List, [], ◌∷◌, ◌++◌, map, refl, sym, ap, ◌∙◌, subst}
use Rattle.std.specs.Prelude.{ℤ, Option, Some, None}
use Rattle.sat_base.specs.declared.name.At.{At}
use Rattle.sat_base.specs.declared.width.Width.{Width}
use Rattle.operator_meaning.specs.declared.site.SiteKind.{SiteKind}
use Rattle.operator_meaning.specs.declared.site.SiteKind.TheVariants as sites
use Rattle.c_tree.specs.declared.expression.BinaryMark.{BinaryMark}
use Rattle.c_tree.specs.declared.expression.BinaryMark.TheVariants as binary
use Rattle.c_tree.specs.declared.expression.UnaryMark.{UnaryMark}
use Rattle.c_tree.specs.declared.expression.UnaryMark.TheVariants as unary
use Rattle.constant_expressions.specs.Folding.{unary_value, binary_value}
use Rattle.c_typed.specs.declared.call.TypedArg.TheOpen as node
use Rattle.c_typed.specs.declared.typed.Typed.{Typed}
use Rattle.typed_meaning.specs.Expressions.{site_at}
use Rattle.ir_arena.specs.Tree as tree
use Rattle.ir_arena.specs.Tree.{IrTree}
use Rattle.source_trees.specs.Expressions.{unary_tree, binary_tree}
use Rattle.lawful_sources.specs.Expressions.{Look, of_kind, opposite, constants_in}
use Rattle.lawful_sources.specs.Things.{Taken, Mark, Conversion, Constant}
use Rattle.lawful_sources.proofs.Passing.{Each}
use Rattle.lawful_ir.specs.Positions.{Of, Valued, before, valued, plainly}
use Rattle.lawful_ir.specs.Walk.{integer_in, constant_in, value_in, marked, stands}
use Rattle.lawful_ir.proofs.Alike.{never, fine, all_of, head, tail, Goes, along, next, goes-on, constants-go, valued-goes}

module _ (source tables : Typed) (numbers : List ℕ) where
  -- the tree of an expression, by what that is
  pub record Walks (node : IrTree) (look : Look) : Type 0 where
    pub integer : integer_in node ≡ look.integer
    pub constant : constant_in node ≡ look.constant
    pub value : value_in node ≡ look.value
    pub stand : (passed : Option (Option Taken)) (due : Option Width) → Each (fine source) (look.stands due)
        → stands tables node (Valued passed due) ≡ before passed ++ all_of source tables numbers (look.stands due)

  -- as a number that is used as it is
  pub plain-goes : (node : IrTree) (look : Look) → Walks node look → Goes source tables numbers (stands tables node plainly) (look.stands None)
  plain-goes node look walks = record { is = λ p. walks.stand None None p }

  -- a sum, a difference, a product, or what is no site
  two-go : (left right : IrTree) (a b : Look) (mark_at : At) (site : Option ℕ) (kind : SiteKind) → Walks left a → Walks right b
      → Goes source tables numbers (stands tables left plainly ++ (marked tables (site_at site) kind ∷ stands tables right plainly)) (a.stands None ++ (Mark mark_at site (Some kind) ∷ b.stands None))
  two-go left right a b mark_at site kind one other =
      along source tables numbers _ _ _ _ (plain-goes left a one) (next source tables numbers (marked tables (site_at site) kind ∷ []) _ (Mark mark_at site (Some kind)) _ (λ p. refl) (plain-goes right b other))

  others-go : (left right : IrTree) (a b : Look) (mark : BinaryMark) (mark_at : At) (site : Option ℕ) → Walks left a → Walks right b
      → Goes source tables numbers (stands tables left plainly ++ (map (λ (value : ℤ). Of (Constant value)) (constants_in mark (constant_in left) (constant_in right)) ++ stands tables right plainly))
      (a.stands None ++ (Mark mark_at site None ∷ (map Constant (constants_in mark a.constant b.constant) ++ b.stands None)))
  others-go left right a b mark mark_at site one other =
      along source tables numbers _ _ _ _ (plain-goes left a one) (goes-on source tables numbers _ (Mark mark_at site None) _ refl
      (along source tables numbers _ _ _ _ (subst (λ (l : List ℤ). Goes source tables numbers (map (λ (value : ℤ). Of (Constant value)) l) (map Constant (constants_in mark a.constant b.constant)))
      (rw (one.constant, other.constant) refl) (constants-go source tables numbers (constants_in mark a.constant b.constant))) (plain-goes right b other)))

  -- no mark but these three gives a constant expression
  abbrev pub NoValue : BinaryMark → Type 0
  NoValue mark = (left right : Option ℤ) → None ≡ binary_value mark left right

  pub none-by : (mark : BinaryMark) → ((left right : ℤ) → binary_value mark (Some left) (Some right) ≡ None) → NoValue mark
  none-by mark f None right = refl
  none-by mark f (Some left) None = refl
  none-by mark f (Some left) (Some right) = sym (f left right)

  none-for : (mark : UnaryMark) → ((part : ℤ) → unary_value mark (Some part) ≡ None) → (part : Option ℤ) → None ≡ unary_value mark part
  none-for mark f None = refl
  none-for mark f (Some part) = sym (f part)

  -- unary `+` leaves no node: no conversion is due there
  plus-stands : (passed : Option (Option Taken)) (due : Option Width) (mark_at : At) (site : Option ℕ) (node : IrTree) (look : Look) → Walks node look
      → Each (fine source) (Conversion None due ∷ Mark mark_at site None ∷ look.stands None)
      → stands tables node (Valued passed due) ≡ before passed ++ all_of source tables numbers (Conversion None due ∷ Mark mark_at site None ∷ look.stands None)
  plus-stands passed None mark_at site node look walks p = walks.stand passed None (tail (fine source) (Mark mark_at site None) _ (tail (fine source) (Conversion None None) _ p))
  plus-stands passed (Some due) mark_at site node look walks p = never (head (fine source) (Conversion None (Some due)) _ p)

  pub unary-walks : (mark : UnaryMark) (mark_at : At) (site : Option ℕ) (part : IrTree) (look : Look) → Walks part look
      → Walks (unary_tree mark (site_at site) part) (of_kind source (node.Unary mark mark_at site look))
  unfolding of_kind
  unary-walks unary.Plus mark_at site part look walks =
      record { integer = walks.integer; constant = walks.constant; value = walks.value ∙ plus-value look.value; stand = λ passed due. plus-stands passed due mark_at site part look walks }
    where
      plus-value : (value : Option ℤ) → value ≡ unary_value unary.Plus value
      plus-value None = refl
      plus-value (Some value) = refl
  unary-walks unary.Minus mark_at site part look walks =
      record {
        integer = refl;
        constant = ap opposite walks.integer;
        value = ap (unary_value unary.Minus) walks.value;
        stand = λ passed due. valued-goes source tables numbers passed None due _ _ (next source tables numbers (marked tables (site_at site) sites.Opposite ∷ []) _ (Mark mark_at site (Some sites.Opposite)) _ (λ p. refl) (plain-goes part look walks));
      }
  unary-walks unary.Not mark_at site part look walks =
      record {
        integer = refl;
        constant = refl;
        value = none-for unary.Not (λ v. refl) look.value;
        stand = λ passed due. valued-goes source tables numbers passed None due _ _ (goes-on source tables numbers _ (Mark mark_at site None) _ refl (plain-goes part look walks));
      }
  unary-walks unary.Invert mark_at site part look walks =
      record {
        integer = refl;
        constant = refl;
        value = none-for unary.Invert (λ v. refl) look.value;
        stand = λ passed due. valued-goes source tables numbers passed None due _ _ (goes-on source tables numbers _ (Mark mark_at site None) _ refl (plain-goes part look walks));
      }

  -- a mark that is a site
  computed-walks : (mark : BinaryMark) (kind : SiteKind) (mark_at : At) (site : Option ℕ) (left right : IrTree) (a b : Look) → Walks left a → Walks right b → (t : IrTree)
      → integer_in t ≡ None → constant_in t ≡ [] → value_in t ≡ binary_value mark (value_in left) (value_in right)
      → ((passed : Option (Option Taken)) (due : Option Width) → stands tables t (Valued passed due) ≡ valued (Valued passed due) None (stands tables left plainly ++ (marked tables (site_at site) kind ∷ stands tables right plainly)))
      → (look : Look) → look ≡ record { integer = None; constant = []; value = binary_value mark a.value b.value; stands = λ due. Conversion None due ∷ (a.stands None ++ (Mark mark_at site (Some kind) ∷ b.stands None)) }
      → Walks t look
  computed-walks mark kind mark_at site left right a b one other t integer constant value is look what =
      subst (λ (l : Look). Walks t l) (sym what) (record {
        integer = integer;
        constant = constant;
        value = value ∙ rw (one.value, other.value) refl;
        stand = λ passed due p. is passed due ∙ valued-goes source tables numbers passed None due _ _ (two-go left right a b mark_at site kind one other) p;
      })

  other-walks : (mark : BinaryMark) (mark_at : At) (site : Option ℕ) (left right : IrTree) (a b : Look) → Walks left a → Walks right b → NoValue mark
      → ((passed : Option (Option Taken)) (due : Option Width) → stands tables (tree.Binary mark left right) (Valued passed due) ≡ valued (Valued passed due) None
      (stands tables left plainly ++ (map (λ (value : ℤ). Of (Constant value)) (constants_in mark (constant_in left) (constant_in right)) ++ stands tables right plainly)))
      → (look : Look) → look ≡ record { integer = None; constant = []; value = binary_value mark a.value b.value; stands = λ due. Conversion None due ∷ (a.stands None ++ (Mark mark_at site None ∷ (map Constant (constants_in mark a.constant b.constant) ++ b.stands None))) }
      → Walks (tree.Binary mark left right) look
  other-walks mark mark_at site left right a b one other valueless is look what =
      subst (λ (l : Look). Walks (tree.Binary mark left right) l) (sym what) (record {
        integer = refl;
        constant = refl;
        value = valueless a.value b.value;
        stand = λ passed due p. is passed due ∙ valued-goes source tables numbers passed None due _ _ (others-go left right a b mark mark_at site one other) p;
      })

  pub binary-walks : (mark : BinaryMark) (mark_at : At) (site : Option ℕ) (left right : IrTree) (a b : Look) → Walks left a → Walks right b
      → Walks (binary_tree mark (site_at site) left right) (of_kind source (node.Binary mark mark_at site a b))
  unfolding of_kind
  binary-walks binary.Plus mark_at site left right a b one other = computed-walks binary.Plus sites.Sum mark_at site left right a b one other _ refl refl refl (λ passed due. refl) _ refl
  binary-walks binary.Minus mark_at site left right a b one other = computed-walks binary.Minus sites.Difference mark_at site left right a b one other _ refl refl refl (λ passed due. refl) _ refl
  binary-walks binary.Times mark_at site left right a b one other = computed-walks binary.Times sites.Product mark_at site left right a b one other _ refl refl refl (λ passed due. refl) _ refl
  binary-walks binary.Either mark_at site left right a b one other = other-walks binary.Either mark_at site left right a b one other (none-by binary.Either (λ x y. refl)) (λ passed due. refl) _ refl
  binary-walks binary.Both mark_at site left right a b one other = other-walks binary.Both mark_at site left right a b one other (none-by binary.Both (λ x y. refl)) (λ passed due. refl) _ refl
  binary-walks binary.BitOr mark_at site left right a b one other = other-walks binary.BitOr mark_at site left right a b one other (none-by binary.BitOr (λ x y. refl)) (λ passed due. refl) _ refl
  binary-walks binary.BitXor mark_at site left right a b one other = other-walks binary.BitXor mark_at site left right a b one other (none-by binary.BitXor (λ x y. refl)) (λ passed due. refl) _ refl
  binary-walks binary.BitAnd mark_at site left right a b one other = other-walks binary.BitAnd mark_at site left right a b one other (none-by binary.BitAnd (λ x y. refl)) (λ passed due. refl) _ refl
  binary-walks binary.Eq mark_at site left right a b one other = other-walks binary.Eq mark_at site left right a b one other (none-by binary.Eq (λ x y. refl)) (λ passed due. refl) _ refl
  binary-walks binary.Ne mark_at site left right a b one other = other-walks binary.Ne mark_at site left right a b one other (none-by binary.Ne (λ x y. refl)) (λ passed due. refl) _ refl
  binary-walks binary.Lt mark_at site left right a b one other = other-walks binary.Lt mark_at site left right a b one other (none-by binary.Lt (λ x y. refl)) (λ passed due. refl) _ refl
  binary-walks binary.Le mark_at site left right a b one other = other-walks binary.Le mark_at site left right a b one other (none-by binary.Le (λ x y. refl)) (λ passed due. refl) _ refl
  binary-walks binary.Gt mark_at site left right a b one other = other-walks binary.Gt mark_at site left right a b one other (none-by binary.Gt (λ x y. refl)) (λ passed due. refl) _ refl
  binary-walks binary.Ge mark_at site left right a b one other = other-walks binary.Ge mark_at site left right a b one other (none-by binary.Ge (λ x y. refl)) (λ passed due. refl) _ refl
