-- A node that is a site has the number of the site of its own token, and of its own kind.
use Rattle.std.proofs.Common.{◌≡◌, List, true, refl, sym, subst}
use Rattle.std.specs.List.{All}
use Rattle.std.specs.Prelude.{slice_get, Option, Some, None, option_map, unwrap_or}
use Rattle.sat_base.specs.declared.name.At.{At}
use Rattle.operator_meaning.specs.declared.object.Site.{Site}
use Rattle.c_typed.specs.declared.typed.Typed.{Typed}
use Rattle.ir_arena.specs.declared.ir.Ir.{Ir}
use Rattle.lawful_ir.specs.Built.{IsTreeOf}
use Rattle.lawful_sources.specs.Lawful.{IsLawful, at_of}
use Rattle.lawful_sources.specs.Rows.{is_of, mark_is_numbered, HasKind, IsOfKind}
use Rattle.lawful_sources.specs.Things.{Thing, Mark}
use Rattle.lawful_ir.specs.Lawful.{tables_of, things_in, EverywhereIn}
use Rattle.lawful_ir.specs.Walk.{nowhere_at}
use Rattle.lawful_ir.proofs.Alike.{never, fine}
use Rattle.lawful_ir.proofs.Reached.{same-number}
use Rattle.lawful_ir.proofs.Wholes.{sites-are}
use Rattle.ir_rows.proofs.Standing.{stood, Passes, pass, hold}

-- a site is that of its own token
own-token : (at : At) (x : Option Site) → is_of at x ≡ true → is_of (unwrap_or (option_map at_of x) nowhere_at) x ≡ true
own-token at None p = never p
own-token at (Some site) p = rw (same-number site.tok, same-number site.pos.line, same-number site.pos.col) refl

module _ (typed : Typed) (ir : Ir) (lawful : IsLawful typed) (is : IsTreeOf typed ir) where
  pub marks-are-numbered : EverywhereIn ir (mark_is_numbered (tables_of ir))
  marks-are-numbered = pass typed ir lawful is mark_is_numbered one lawful.marks_are_numbered
    where
      one : Passes typed ir lawful is mark_is_numbered
      one (Mark at None (Some kind)) f p = never p
      one (Mark at (Some site) (Some kind)) f p = own-token at _ (subst (λ (l : List Site). is_of at (slice_get l site) ≡ true) (sym (sites-are typed ir lawful is)) p)
      one x f p = refl

  pub kinds-agree : All (IsOfKind (tables_of ir)) (things_in ir)
  kinds-agree = hold typed ir lawful is (IsOfKind typed) (IsOfKind (tables_of ir)) one lawful.kinds_agree
    where
      one : (x : Thing) → fine typed x ≡ true → IsOfKind typed x → IsOfKind (tables_of ir) (stood typed ir lawful is x)
      one (Mark at None (Some kind)) f p = never f
      one (Mark at (Some site) (Some kind)) f p = subst (λ (l : List Site). HasKind (slice_get l site) (Some kind)) (sym (sites-are typed ir lawful is)) p
      one x f p = tt
