use Rattle.std.proofs.Common.{◌∙◌, List, map, arith, ap, sym, subst, refl}
use Rattle.operator_meaning.specs.declared.object.Object.{Object}
use Rattle.expression_code.specs.Straight.{is_wordless}
use Rattle.register_allocation.specs.declared.table.Room.{Room}
use Rattle.register_allocation.proofs.Judging.{moved-rooms}
use Rattle.data_layout.specs.declared.layout.DataLayout.{DataLayout}
use Rattle.data_layout.specs.Homes.{EndRight, IsBehind}
use Rattle.data_layout.specs.Laid.{HasVariables}
use Rattle.data_layout.specs.Layouts.{layout_of}
use Rattle.data_layout.specs.Slots.{AreSlots}
use Rattle.data_layout.proofs.Rooms.{end-right}
use Rattle.data_layout.proofs.Words.{variables-are, laid, homes-kept}
use Rattle.data_layout.proofs.Objects.{no-views, sites-are}
use Rattle.data_layout.proofs.laying.data_layout.Goals as goal

pub homes_end-taken-requires : goal.homes_end-taken-requires
homes_end-taken-requires c =
    let objects = c.args.ir.now.objects in
    let lists = c.args.assign.now.functions in
    let rooms = c.in_ok-rooms.rooms in
    let are = moved-rooms objects c.as_slice-objects.result.now lists c.as_slice.result.now rooms c.as_slice-objects.ensures c.as_slice.ensures c.in_ok-rooms.ensures in
    subst (λ (rs : List Room). EndRight rs) (sym c.as_slice-2.ensures) (end-right objects lists rooms are c.requires.slots_fit)

pub returns : goal.returns
returns c =
    let objects = c.args.ir.now.objects in
    let lists = c.args.assign.now.functions in
    let rooms = c.in_ok-rooms.rooms in
    let taken = c.homes_end-taken.result in
    let made = c.in_ok-made.made in
    let layout : DataLayout = record { slots = made.slots; kept = made.end; depth = c.args.depth; size = c.in_ok-data_end_of.field-0; wordless = c.in_ok-wordless_sites.field-0 } in
    let are = moved-rooms objects c.as_slice-objects.result.now lists c.as_slice.result.now rooms c.as_slice-objects.ensures c.as_slice.ensures c.in_ok-rooms.ensures in
    let behind = subst (λ (rs : List Room). IsBehind rs taken) c.as_slice-2.ensures c.homes_end-taken.ensures in
    let slots = subst (λ (rs : List Room). AreSlots objects rs taken made.slots made.end) c.as_slice-3.ensures
    (subst (λ (os : List Object). AreSlots os c.as_slice-3.result.now taken made.slots made.end) c.as_slice-objects.ensures c.in_ok-made.ensures) in
    let variables : HasVariables objects (layout_of layout) = variables-are objects lists rooms are taken layout slots in
    record {
      laid = laid objects lists rooms are taken layout slots behind c.requires.slots_fit c.requires.slots_apart (omega (arith, c.in_ok-data_end_of.ensures.sum, c.in_ok-kept_bytes.ensures)) c.in_ok-data_end_of.ensures.within;
      variables = variables;
      scalars = no-views objects (layout_of layout) variables;
      homes = homes-kept objects lists rooms are taken layout slots behind c.requires.slots_apart;
      depth = refl;
      wordless = sites-are c.args.ir.now.sites layout (c.in_ok-wordless_sites.ensures ∙ ap (map (λ site. is_wordless site.kind)) c.as_slice-4.ensures);
    }
