-- The image of a source does what the source does, and has an entry for each of its sites.
use Rattle.std.proofs.Common.{◌≡◌, ℕ, ◌≤◌, List, All, length, Option, Some, refl, sym, subst, arith}
use Rattle.std.specs.Prelude.{IfSome}
use Rattle.sat_base.specs.declared.limits.TheConstants.{SOURCE_BYTES, TOKENS, DEPTH}
use Rattle.c_lexer.specs.declared.token.Tokens.{Tokens}
use Rattle.c_lexer.specs.Text.{IsCut}
use Rattle.c_tree.specs.declared.program.Program.{Program}
use Rattle.c_tree.specs.Depth.{depth_of}
use Rattle.c_grammar.specs.Programs.{Spells}
use Rattle.first_form.specs.declared.first.First.{First}
use Rattle.first_form.specs.Form.{IsFirst, HasOperands, nesting_of}
use Rattle.first_form.proofs.Depths.{shallow}
use Rattle.first_form.proofs.Numbers.{operands}
use Rattle.image_format.specs.declared.image.Image.{Image}
use Rattle.sat_compile.specs.Emission.{image_of, HasNumbers}
use Rattle.sat_compile.specs.Accepted.{HasTokens, IsImageOf}
use Rattle.c_typed.specs.declared.typed.Typed.{Typed}
use Rattle.sat_compile.specs.Checked.{IsChecked}
use Rattle.sat_compile.specs.FirstSource.{source_of}
use Rattle.sat_compile.specs.Promise.{Compiles}
use Rattle.sat_compile.proofs.Entries.{holds}
use Rattle.sat_compile.proofs.Simulation.{runs}
use Rattle.sat_compile.proofs.Readable.{readable}
use Rattle.sat_compile.proofs.Sizes.{tokens_in, code_small, calls_small}
use Rattle.sat_compile.proofs.TokenCounts.{tokens_counted}

-- what is known of a tree that was read, and of its first form
pub record IsReadAs (text : List ℕ) (tokens : Tokens) (program : Program) (first : First) : Type 0 where
  pub has : HasTokens text tokens
  pub few : length tokens.list ≤ 131072
  pub spelled : Spells program tokens
  pub shallow : depth_of program ≤ DEPTH
  pub form : IsFirst program first

-- from what the parts of the compiler promise
pub read_as : (text : List ℕ) (tokens : Tokens) (program : Program) (found : Option First) (first : First)
    → length text ≤ SOURCE_BYTES → IsCut text tokens → length tokens.list ≤ TOKENS → Spells program tokens → depth_of program ≤ DEPTH
    → IfSome found (IsFirst program) → found ≡ Some first → IsReadAs text tokens program first
read_as text tokens program found first short cut few spelled shallow form is = record {
  has = record { short = short; cut = cut };
  few = few;
  spelled = spelled;
  shallow = shallow;
  form = subst (λ o. IfSome o (IsFirst program)) is form;
}

module _ (text : List ℕ) (tokens : Tokens) (program : Program) (first : First) (read : IsReadAs text tokens program first) where
  pub operands_of : All HasOperands first.outs
  operands_of = operands program first read.form

  -- calls are nested less deep than the tree is
  pub nested_little : All (λ e. nesting_of e ≤ 64) first.outs
  nested_little = λ i d within. omega (arith, shallow program first read.form i d within, read.shallow)

  pub few_tokens : tokens_in first.outs ≤ 131072
  few_tokens = omega (arith, tokens_counted program tokens first read.spelled read.form, read.few)

  compiled : HasNumbers (image_of first) → Compiles (source_of first) (image_of first)
  compiled numbers = record {
    alike = runs first operands_of nested_little (code_small first few_tokens) (calls_small first few_tokens);
    sites = holds first;
    readable = readable first few_tokens nested_little numbers;
  }

  pub image_is : (typed : Typed) (functions : List ℕ) → IsChecked program typed functions → (image : Image) → image ≡ image_of first → HasNumbers image → IsImageOf text image
  image_is typed functions checked image is numbers =
      subst (IsImageOf text) (sym is) (record {
        source = source_of first;
        accepted = record {
          program = program;
          tree = record { tokens = tokens; has = read.has; spelled = read.spelled; shallow = read.shallow };
          typed = typed;
          functions = functions;
          checked = checked;
          first = first;
          form = read.form;
          is = refl;
        };
        compiles = compiled (subst HasNumbers is numbers);
      })
