-- What a mark computes or checks, where it is noted and where it stands.
use Rattle.std.proofs.Common.{◌≡◌, ℕ, List, Bool, true, false, refl, sym, subst}
use Rattle.std.specs.Prelude.{Option, Some, slice_get}
use Rattle.sat_base.specs.declared.name.At.{At}
use Rattle.sat_base.specs.declared.width.Width.{Width}
use Rattle.c_tree.specs.declared.expression.BinaryMark.{BinaryMark}
use Rattle.c_tree.specs.declared.expression.BinaryMark.TheVariants as binary
use Rattle.c_tree.specs.declared.expression.UnaryMark.{UnaryMark}
use Rattle.c_tree.specs.declared.expression.UnaryMark.TheVariants as unary
use Rattle.c_tree.specs.declared.program.Item.{Item}
use Rattle.c_tree.specs.declared.simple.AssignMark.{AssignMark}
use Rattle.c_tree.specs.declared.simple.AssignMark.TheVariants as assign
use Rattle.c_typed.specs.declared.call.Callee.{Callee}
use Rattle.c_typed.specs.declared.call.Callee.TheVariants as callees
use Rattle.c_typed.specs.declared.typed.Typed.{Typed}
use Rattle.operator_meaning.specs.declared.object.Object.{Object}
use Rattle.operator_meaning.specs.declared.object.Site.{Site}
use Rattle.operator_meaning.specs.declared.site.SiteKind.{SiteKind}
use Rattle.c_seen.specs.declared.seen.Kind.{Kind}
use Rattle.c_seen.specs.declared.seen.Marks.{Marks as SeenMarks}
use Rattle.c_seen.specs.declared.seen.Marks.TheVariants as with_marks
use Rattle.c_seen.specs.declared.seen.Meaning.{Meaning}
use Rattle.c_seen.specs.declared.seen.Meaning.TheVariants as means
use Rattle.c_seen.specs.declared.seen.Seen.{Seen}
use Rattle.c_seen.specs.declared.seen.Seen.TheVariants as seen
use Rattle.c_seen.specs.Meanings.{Names, meaning}
use Rattle.tied_names.specs.declared.tie.TiedObject.{TiedObject}
use Rattle.tied_names.specs.Ties as ties
use Rattle.tied_names.specs.Ties.{Here, tie_of, object_of}
use Rattle.tied_expressions.specs.Sites as tied
use Rattle.tied_statements.specs.Statements as tied_statements
use Rattle.lawful_sources.specs.Expressions.{unary_kind, binary_kind, call_kind, index_kind, first_kind, second_kind}
use Rattle.lawful_sources.specs.Statements.{assign_kind, step_kind}
use Rattle.lawful_names.proofs.Agreement.{IsObject, Near}
use Rattle.lawful_names.proofs.Clean.{Clean}
use Rattle.lawful_names.proofs.Fitting.{Purpose, ampersand_of, use_of, place_seen, NamesObject, place-names}
use Rattle.lawful_sites.proofs.Sited.{site_of, SameKinds}
use Rattle.lawful_sites.proofs.Twins.{Twins, object-same}

module _ {K : Type 0} (key : Site → K) where
  pub unary-kinds : (at : At) (mark : UnaryMark) → SameKinds key at (tied.unary_kind mark) (unary_kind mark) (tied.unary_kind mark)
  unary-kinds at unary.Minus = refl
  unary-kinds at mark = tt

  pub binary-kinds : (at : At) (mark : BinaryMark) → SameKinds key at (tied.binary_kind mark) (binary_kind mark) (tied.binary_kind mark)
  binary-kinds at binary.Plus = refl
  binary-kinds at binary.Minus = refl
  binary-kinds at binary.Times = refl
  binary-kinds at mark = tt

  pub call-kinds : (at : At) (callee : Callee) → SameKinds key at (ties.call_kind callee) (call_kind callee) (ties.call_kind callee)
  call-kinds at (callees.Operator op) = refl
  call-kinds at callees.SampleIn = refl
  call-kinds at callee = tt

  pub assign-kinds : (at : At) (mark : AssignMark) → SameKinds key at (tied_statements.assign_kind mark) (assign_kind mark) (tied_statements.assign_kind mark)
  assign-kinds at assign.Plus = refl
  assign-kinds at assign.Minus = refl
  assign-kinds at assign.Times = refl
  assign-kinds at mark = tt

  pub step-kinds : (at : At) (up : Bool) → key (site_of at (step_kind up)) ≡ key (site_of at (tied_statements.step_kind up))
  step-kinds at true = refl
  step-kinds at false = refl

  -- ---- the marks of places

  -- the indices of an object, as it stands in the source and as its name is tied
  abbrev pub SameIndices : SeenMarks → Purpose → Option Object → TiedObject → Type 0
  SameIndices (with_marks.Once mark) purpose object named =
      (at : At) → key (site_of at (index_kind object (use_of purpose))) ≡ key (site_of at (ties.index_kind named named.rows (ampersand_of purpose)))
  SameIndices (with_marks.Twice mark) purpose object named =
      ((at : At) → key (site_of at (first_kind object)) ≡ key (site_of at (ties.index_kind named named.rows false)))
      × ((at : At) → key (site_of at (second_kind object (use_of purpose))) ≡ key (site_of at (ties.index_kind named named.columns (ampersand_of purpose))))
  SameIndices marks purpose object named = Unit {0}

  module _ (source : Typed) (items : List Item) (Shaped : Kind → Object → Type 0) (sound : Seen → Bool) where
    pub record Keeps : Type 0 where
      pub indices : (at : At) (kind : Kind) (width : Width) (is_const : Bool) (named : TiedObject) (marks : SeenMarks) (purpose : Purpose) (o : IsObject source Shaped kind width is_const named)
          → sound (seen.Place (place_seen at marks purpose (Some (means.Object kind width is_const)))) ≡ true → Clean (seen.Place (place_seen at marks purpose (Some (means.Object kind width is_const))))
          → SameIndices marks purpose (Some o.object) named

    pub same-indices : (clean : (s : Seen) → sound s ≡ true → Clean s) (tokens : List ℕ) → Keeps → (at : At) (name : List ℕ) (marks : SeenMarks) (purpose : Purpose) (names : Names) (here other : Here) → Near source items Shaped names here → Twins tokens here other
        → sound (seen.Place (place_seen at marks purpose (meaning names name))) ≡ true → SameIndices marks purpose (slice_get source.objects (object_of here name).number) (object_of other name)
    same-indices clean tokens keeps at name marks purpose names here other near twins p =
        let o : NamesObject source items Shaped (meaning names name) (tie_of here name) = place-names source items Shaped at name marks purpose (meaning names name) (tie_of here name) (near.agree name) (clean _ p) in
        let q : sound (seen.Place (place_seen at marks purpose (Some (means.Object o.kind o.width o.is_const)))) ≡ true = subst (λ (m : Option Meaning). sound (seen.Place (place_seen at marks purpose m)) ≡ true) o.stands_for p in
        subst (SameIndices marks purpose (slice_get source.objects (object_of here name).number)) (sym (object-same tokens here other twins name))
        (subst (λ (object : Option Object). SameIndices marks purpose object (object_of here name)) (sym o.is.stands)
        (keeps.indices at o.kind o.width o.is_const (object_of here name) marks purpose o.is q (clean _ q)))

-- where the kind of a site is left out
pub any-keeps : {K : Type 0} (key : Site → K) → ((at : At) (one other : SiteKind) → key (site_of at one) ≡ key (site_of at other)) → (source : Typed) (items : List Item) (Shaped : Kind → Object → Type 0) (sound : Seen → Bool) → Keeps key source items Shaped sound
any-keeps key same source items Shaped sound = record { indices = λ at kind width is_const named marks purpose o p c. same-by marks purpose (Some o.object) named }
  where
    same-by : (marks : SeenMarks) (purpose : Purpose) (object : Option Object) (named : TiedObject) → SameIndices key marks purpose object named
    same-by (with_marks.Once mark) purpose object named = λ at. same at _ _
    same-by (with_marks.Twice mark) purpose object named = (λ at. same at _ _, λ at. same at _ _)
    same-by marks purpose object named = tt
