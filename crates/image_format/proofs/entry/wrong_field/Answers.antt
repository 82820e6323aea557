use Rattle.std.proofs.Common.{◌++◌, ◌∙◌, ap}
use Rattle.image_format.specs.declared.image.SiteEntry.{SiteEntry}
use Rattle.image_format.specs.Rules.{first_broken, place_rules, choice_rules, register_rules, spare_rules}
use Rattle.image_format.proofs.Broken.{append_first}
use Rattle.image_format.proofs.entry.wrong_field.Goals as goal

pub returns-clause-first : goal.returns-clause-first
returns-clause-first c =
    let entry = c.entry_of-entry.result in
    let place = place_rules c.args.code_words entry in
    let choice = choice_rules entry in
    let register = register_rules entry in
    let spare = spare_rules c.args.bytes.now in
    let two = append_first place choice _ _ _ c.wrong_place.ensures.first c.wrong_choice.ensures.first c.or.ensures in
    let three = append_first (place ++ choice) register _ _ _ two c.wrong_register.ensures.first c.or-2.ensures in
    append_first (place ++ choice ++ register) spare _ _ _ three c.wrong_spare.ensures.first c.or-3.ensures
    ∙ ap (λ (e : SiteEntry). first_broken (place_rules c.args.code_words e ++ choice_rules e ++ register_rules e ++ spare)) c.entry_of-entry.ensures
