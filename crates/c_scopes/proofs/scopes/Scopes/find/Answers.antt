use Rattle.std.proofs.Common.{◌≡◌, ℕ, ◌<◌, ◌≤◌, List, length, get_or, reverse, refl, sym, ap, ◌∙◌}
use Rattle.std.specs.Prelude.{Some, None}
use Rattle.std.specs.Option.{option_map}
use Rattle.std.proofs.lemmas.Option.{slice_get_read, slice_get_past}
use Rattle.c_scopes.specs.declared.scopes.Entry.{Entry}
use Rattle.c_scopes.specs.Scopes.{Known, meaning_of}
use Rattle.c_scopes.specs.Tied.{newest_in}
use Rattle.c_scopes.proofs.Newest.{declared_in, meaning-found}
use Rattle.c_scopes.proofs.scopes.Scopes.find.Goals as goal

declared : {A : Type 0} (items seen : List (Entry A)) (place : ℕ) (e : Entry A) → seen ≡ items → e ≡ get_or seen place e → place < length seen → declared_in items (Some place) ≡ Some e.declared
declared items seen place e same read less = rw (← same) (ap (option_map (λ (x : Entry _). x.declared)) (slice_get_read seen (length seen) place e refl less read))

past : {A : Type 0} (items seen : List (Entry A)) (place : ℕ) → seen ≡ items → length seen ≤ place → declared_in items (Some place) ≡ None
past items seen place same more = rw (← same) (ap (option_map (λ (x : Entry _). x.declared)) (slice_get_past seen place more))

pub returns-in-Some-get : goal.returns-in-Some-get
returns-in-Some-get g c =
    let there = c.in-Some-get.ensures.lookup in
    let place : newest_in (reverse c.self.inside.entries.items) c.args.name.now ≡ Some c.in-Some.place = sym (c.self.invariant.newest c.args.name.now) ∙ sym c.place_of.ensures ∙ c.in-Some.is in
    sym (ap (λ (names : List (Known _)). meaning_of names c.args.name.now) (sym c.self.view_is) ∙ meaning-found c.self.inside.entries.items c.args.name.now _ place
    ∙ declared c.self.inside.entries.items c.deref.result.now c.in-Some.place c.in-Some-get.entry.now c.deref.ensures.value there.1 there.3.0)

pub returns-in-None-get : goal.returns-in-None-get
returns-in-None-get g c =
    let place : newest_in (reverse c.self.inside.entries.items) c.args.name.now ≡ Some c.in-Some.place = sym (c.self.invariant.newest c.args.name.now) ∙ sym c.place_of.ensures ∙ c.in-Some.is in
    sym (ap (λ (names : List (Known _)). meaning_of names c.args.name.now) (sym c.self.view_is) ∙ meaning-found c.self.inside.entries.items c.args.name.now _ place
    ∙ past c.self.inside.entries.items c.deref.result.now c.in-Some.place c.deref.ensures.value c.in-None-get.ensures.lookup.3)

pub returns-in-None : goal.returns-in-None
returns-in-None g c =
    let place : newest_in (reverse c.self.inside.entries.items) c.args.name.now ≡ None = sym (c.self.invariant.newest c.args.name.now) ∙ sym c.place_of.ensures ∙ c.in-None.is in
    sym (ap (λ (names : List (Known _)). meaning_of names c.args.name.now) (sym c.self.view_is) ∙ meaning-found c.self.inside.entries.items c.args.name.now _ place)
