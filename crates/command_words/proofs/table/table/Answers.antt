use Rattle.std.proofs.Common.{◌≡◌, ◌∙◌, true, codes, ap, ap₂}
use Rattle.std.proofs.lemmas.Result.{IfOk-weaker}
use Rattle.clap.specs.Simple.{App, app_of, new_app, with_subcommand}
use Rattle.command_words.proofs.table.table.Goals as goal

-- the settings of the table
abbrev set : App → App
set app = record app {
  top = record app.top {
    no_binary_name = true;
    disable_help_flag = true;
    disable_help_subcommand = true;
    subcommand_required = true;
  };
}

pub returns : goal.returns
returns c =
    let start : app_of c.subcommand_required.result ≡ set (new_app (codes "satc")) =
    rw (c.subcommand_required.ensures, c.disable_help_subcommand.ensures, c.disable_help_flag.ensures, c.no_binary_name.ensures) (ap set c.new.ensures.app) in
    let one = c.in_ok-subcommand.ensures.shape c.in_ok-row.ensures.local ∙ ap₂ with_subcommand start c.in_ok-row.ensures.shape in
    let two = c.in_ok-subcommand-2.ensures.shape c.in_ok-row-2.ensures.local ∙ ap₂ with_subcommand one c.in_ok-row-2.ensures.shape in
    IfOk-weaker c.subcommand-3.result _ _ (λ made adds. adds.shape c.in_ok-row-3.ensures.local ∙ ap₂ with_subcommand two c.in_ok-row-3.ensures.shape) c.subcommand-3.ensures
