use Rattle.std.proofs.Common.{◌≡◌, ◌∙◌, ap, refl, arith, false, sym, None, option_and_then}
use Rattle.std.specs.Map.{lookup}
use Rattle.std.specs.Option.{is_some, option_map_or}
use Rattle.std.proofs.lemmas.Result.{on_ok_weaker}
use Rattle.ld_names.specs.declared.file.Folder.{Folder}
use Rattle.ld_names.specs.Standing.{same_folder}
use Rattle.ld_texts.specs.Inside.Found.{has_room, id_in, ids_of}
use Rattle.ld_texts.specs.Learning.{KeepsTexts}
use Rattle.ld_texts.specs.contracts.texts.Texts.{the_view}
use Rattle.ld_texts.proofs.Index.{IsPut, IsIndex-placed, placed, still-placed}
use Rattle.ld_texts.proofs.texts.Texts.give_place.Goals.{Joined-branch-4}
use Rattle.ld_texts.proofs.texts.Texts.give_place.Goals as goal

pub invariant_of-self : goal.invariant_of-self
invariant_of-self c =
    (c.self.invariant.0, IsIndex-placed c.self.inside.files.items c.self.inside.ids.entries _ c.args.name.now c.reserve.new.self c.self.invariant.1 finds (λ other. ((c.get_mut.follows.holds c.reserve.new.self).3 (ap is_some (sym c.in-Some.ensures.value))).0 other))
  where
    finds : (folder : Folder) → id_in folder c.reserve.new.self ≡ option_and_then (id_in folder) (ids_of c.self.inside.ids.entries c.args.name.now)
    finds folder = ap (lookup (same_folder folder)) c.reserve.ensures.numbers ∙ ap (option_and_then (id_in folder)) c.in-Some.ensures.value

pub returns-in-Some-clause-place : goal.returns-in-Some-clause-place
returns-in-Some-clause-place c =
    on_ok_weaker c.reserve.result (placed c.self.inside.ids.entries _ c.args.name.now c.reserve.new.self (λ other. ((c.get_mut.follows.holds c.reserve.new.self).3 (ap is_some (sym c.in-Some.ensures.value))).0 other)) c.reserve.ensures.room

pub returns-in-Some-clause-same : goal.returns-in-Some-clause-same
returns-in-Some-clause-same c =
    let keeps : KeepsTexts (the_view c.self.inside) (the_view (record c.self.inside { ids = c.get_mut.follows.lender c.reserve.new.self })) = record {
      known = refl;
      max_files = refl;
      max_weight = refl;
      room = search arith;
      places = still-placed c.self.inside.ids.entries _ c.args.name.now c.reserve.new.self (λ other. ((c.get_mut.follows.holds c.reserve.new.self).3 (ap is_some (sym c.in-Some.ensures.value))).0 other)
          (λ room. c.reserve.ensures.kept (ap (λ found. option_map_or has_room found false) c.in-Some.ensures.value ∙ room));
    } in
    rw (c.self.view_is) at keeps

missing : (c : Joined-branch-4) → ids_of c.self.inside.ids.entries c.args.name.now ≡ None
missing c = sym c.in_default.ensures.value

put : (c : Joined-branch-4) → IsPut c.self.inside.ids.entries c.args.name.now c.in_ok-new.field-0 c.insert.new.self.entries
put c = (rw (c.in_ok-copy.ensures, c.get_mut.follows.holds-at-none) at c.in_ok-insert.ensures.updates).0

pub invariant_of-self-2 : goal.invariant_of-self-2
invariant_of-self-2 c =
    (c.self.invariant.0, IsIndex-placed c.self.inside.files.items c.self.inside.ids.entries c.insert.new.self.entries c.args.name.now c.in_ok-new.field-0 c.self.invariant.1 finds (put c))
  where
    finds : (folder : Folder) → id_in folder c.in_ok-new.field-0 ≡ option_and_then (id_in folder) (ids_of c.self.inside.ids.entries c.args.name.now)
    finds folder = ap (lookup (same_folder folder)) c.in_ok-new.ensures.numbers ∙ sym (ap (option_and_then (id_in folder)) (missing c))

pub returns-clause-place : goal.returns-clause-place
returns-clause-place c = placed c.self.inside.ids.entries c.insert.new.self.entries c.args.name.now c.in_ok-new.field-0 (put c) c.in_ok-new.ensures.room

pub returns-clause-same : goal.returns-clause-same
returns-clause-same c =
    let keeps : KeepsTexts (the_view c.self.inside) (the_view (record c.self.inside { ids = c.insert.new.self })) = record {
      known = refl;
      max_files = refl;
      max_weight = refl;
      room = search arith;
      places = still-placed c.self.inside.ids.entries c.insert.new.self.entries c.args.name.now c.in_ok-new.field-0 (put c) (λ room. c.in_ok-new.ensures.room);
    } in
    rw (c.self.view_is) at keeps
