-- The sites that stand where a part of a tree is tied are those that are noted in it, in their order, and each mark that
-- is a site has the number of its token. What is asked of a site is its key, so that its kind may be left out.
use Rattle.std.proofs.Common.{◌≡◌, ℕ, List, [], ◌∷◌, ◌++◌, Bool, true, false, map, refl, sym, ap, ◌∙◌, subst}
use Rattle.std.specs.Prelude.{ℤ, flat_map, Option, Some, None, is_none, ◌&&◌, ◌==◌, if◌then◌else◌}
use Rattle.std.proofs.lemmas.Bool.{eq-eqb}
use Rattle.std.proofs.lemmas.Grind.{flat_map-append}
use Rattle.std.proofs.lemmas.List.{append-nil, map-append}
use Rattle.sat_base.specs.declared.name.At.{At}
use Rattle.operator_meaning.specs.declared.object.Site.{Site}
use Rattle.operator_meaning.specs.declared.site.SiteKind.{SiteKind}
use Rattle.tied_names.specs.declared.note.Note.{Note}
use Rattle.tied_names.specs.declared.note.Note.TheVariants as note
use Rattle.tied_names.specs.declared.tie.TiedObject.{TiedObject}
use Rattle.tied_names.specs.Numbers.{number_in, sites_in}
use Rattle.tied_names.specs.Ties.{Here, is_scalar}
use Rattle.tied_expressions.specs.Sites.{number_if, noted_if, exposed_if}
use Rattle.lawful_sources.specs.Things.{Thing, Mark, Constant}
use Rattle.lawful_sources.proofs.Passing.{Each, none, next, joined}

abbrev pub site_of : At → SiteKind → Site
site_of at kind = record { tok = at.tok; pos = at.pos; kind = kind }

abbrev pub has_number : List ℕ → At → Option ℕ → Option SiteKind → Bool
has_number tokens at None kind = is_none kind
has_number tokens at (Some number) None = false
has_number tokens at (Some number) (Some kind) = number == number_in tokens at.tok

-- a mark has a number exactly where it is a site: that of its token among these
abbrev pub is_numbered : List ℕ → Thing → Bool
is_numbered tokens (Mark at site kind) = has_number tokens at site kind
is_numbered tokens thing = true

pub sites-append : (xs ys : List Note) → sites_in (xs ++ ys) ≡ sites_in xs ++ sites_in ys
sites-append [] ys = refl
sites-append (note.Site site ∷ xs) ys = ap (λ (l : List Site). site ∷ l) (sites-append xs ys)
sites-append (note.Exposed number ∷ xs) ys = sites-append xs ys

none-exposed : (is : Bool) (number : ℕ) → sites_in (if is then note.Exposed number ∷ [] else []) ≡ []
none-exposed true number = refl
none-exposed false number = refl

module _ {K : Type 0} (key : Site → K) where
  -- the key of a mark that is a site
  abbrev pub keyed : Thing → List K
  keyed (Mark at site (Some kind)) = key (site_of at kind) ∷ []
  keyed thing = []

  -- the kinds that a mark has where it is numbered, where it stands and where it is noted
  abbrev pub SameKinds : At → Option SiteKind → Option SiteKind → Option SiteKind → Type 0
  SameKinds at None None None = Unit {0}
  SameKinds at (Some tied) (Some stands) (Some noted) = key (site_of at stands) ≡ key (site_of at noted)
  SameKinds at tied stands noted = ⊥

  module _ (tokens : List ℕ) where
    pub record Sited (things : List Thing) (notes : List Note) : Type 0 where
      pub sites : flat_map keyed things ≡ map key (sites_in notes)
      pub numbered : Each (is_numbered tokens) things

    pub nothing : Sited [] []
    nothing = record { sites = refl; numbered = none (is_numbered tokens) }

    pub exposed : (ampersand : Bool) (object : TiedObject) → Sited [] (exposed_if ampersand object)
    exposed ampersand object = record { sites = sym (ap (map key) (none-exposed (ampersand && is_scalar object) object.number)); numbered = none (is_numbered tokens) }

    -- a thing that is no mark
    pub beside : (thing : Thing) (things : List Thing) (notes : List Note) → keyed thing ≡ [] → is_numbered tokens thing ≡ true → Sited things notes → Sited (thing ∷ things) notes
    beside thing things notes free fine p =
        record { sites = ap (λ (l : List K). l ++ flat_map keyed things) free ∙ p.sites; numbered = next (is_numbered tokens) thing things fine p.numbered }

    pub both : (xs ys : List Thing) (ms ns : List Note) → Sited xs ms → Sited ys ns → Sited (xs ++ ys) (ms ++ ns)
    both xs ys ms ns p q = record {
      sites = flat_map-append keyed xs ys ∙ ap (λ (l : List K). l ++ flat_map keyed ys) p.sites ∙ ap (λ (l : List K). map key (sites_in ms) ++ l) q.sites
          ∙ sym (ap (map key) (sites-append ms ns) ∙ map-append key (sites_in ms) (sites_in ns));
      numbered = joined (is_numbered tokens) xs ys p.numbered q.numbered;
    }

    pub last : (things : List Thing) (thing : Thing) (notes : List Note) → keyed thing ≡ [] → is_numbered tokens thing ≡ true → Sited things notes → Sited (things ++ thing ∷ []) notes
    last things thing notes free fine p = subst (λ (l : List Note). Sited (things ++ thing ∷ []) l) (append-nil notes) (both things (thing ∷ []) notes [] p (beside thing [] [] free fine nothing))

    pub values : (constants : List ℤ) (things : List Thing) (notes : List Note) → Sited things notes → Sited (map Constant constants ++ things) notes
    values [] things notes p = p
    values (value ∷ rest) things notes p = beside (Constant value) _ notes refl refl (values rest things notes p)

    -- a mark that is a site
    pub site : (here : Here) → here.tokens ≡ tokens → (at : At) (stands noted : SiteKind) (things : List Thing) (notes : List Note) → key (site_of at stands) ≡ key (site_of at noted)
        → Sited things notes → Sited (Mark at (Some (number_in here.tokens at.tok)) (Some stands) ∷ things) (note.Site (site_of at noted) ∷ notes)
    site here own at stands noted things notes same p = record {
      sites = ap (λ (k : K). k ∷ flat_map keyed things) same ∙ ap (λ (l : List K). key (site_of at noted) ∷ l) p.sites;
      numbered = next (is_numbered tokens) _ things (eq-eqb _ _ (ap (λ (l : List ℕ). number_in l at.tok) own)) p.numbered;
    }

    pub mark : (here : Here) → here.tokens ≡ tokens → (at : At) (tied stands noted : Option SiteKind) (things : List Thing) (notes : List Note) → SameKinds at tied stands noted
        → Sited things notes → Sited (Mark at (number_if here tied at) stands ∷ things) (noted_if noted at ++ notes)
    mark here own at None None None things notes same p = beside (Mark at None None) things notes refl refl p
    mark here own at (Some tied) (Some stands) (Some noted) things notes same p = site here own at stands noted things notes same p
    mark here own at tied stands noted things notes same p = absurd same
