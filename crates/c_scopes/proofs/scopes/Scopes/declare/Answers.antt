use Rattle.std.proofs.Common.{◌≡◌, length, reverse, sym, ap, ◌∙◌}
use Rattle.std.proofs.lemmas.List.{length-map, length-reverse}
use Rattle.c_scopes.specs.Tied.{known_of}
use Rattle.c_scopes.proofs.Ties.{tied-declared}
use Rattle.c_scopes.proofs.scopes.Scopes.declare.Goals as goal

pub invariant_of-self-in-Ok : goal.invariant_of-self-in-Ok
invariant_of-self-in-Ok g c =
    let place : c.len-place.result ≡ length c.self.inside.entries.items =
    c.len-place.ensures ∙ ap length (sym c.self.view_is) ∙ length-map (reverse c.self.inside.entries.items) known_of ∙ length-reverse c.self.inside.entries.items in
    tied-declared c.self.inside (record { newest = c.insert.new.self; entries = c.push.new.self }) (record { name = c.args.name; declared = c.args.declared; hidden = c.place_of-hidden.result })
    c.self.invariant c.in_ok-push.ensures.items c.place_of-hidden.ensures (rw place at c.in-Ok.ensures.updates)
