use Rattle.std.proofs.Common.{◌≡◌, ◌∙◌, ◌∷◌, ◌++◌, ap, false, length, refl, rules, subst, sym, true, Option, Some, None, []}
use Rattle.std.specs.Option.{is_some, option_copied_mut, option_map, option_map_or}
use Rattle.ld_texts.specs.Inside.Found.{has_room, has_room_for, ids_of}
use Rattle.ld_texts.specs.declared.ids.Ids.{Ids}
use Rattle.ld_texts.specs.Learning.{Texts, CanCommit, IsLearnt, Learn}
use Rattle.ld_texts.specs.contracts.texts.Texts.{the_view}
use Rattle.ld_texts.proofs.Files.{IsWithin-learnt}
use Rattle.ld_texts.proofs.Index.{IsIndex-learnt, IsPut, has_place-is}
use Rattle.ld_texts.proofs.Learnt.{is_learnt, new_id-is}
use Rattle.ld_texts.proofs.texts.Texts.learn.Goals.{After-get_mut, After-unwrap}
use Rattle.ld_texts.proofs.texts.Texts.learn.Goals as goal

ready : (c : After-get_mut) → CanCommit (the_view c.self.inside) (Learn c.args.file c.args.text)
ready c = rw (← c.self.view_is) at c.requires

some_where : (found : Option Ids) → option_map_or has_room found false ≡ true → is_some found ≡ true
some_where None room = cc
some_where (Some ids) room = refl

some_behind : {A B : Type 0} (f : A → B) (found : Option A) → is_some (option_map f found) ≡ true → is_some found ≡ true
some_behind f None some = some
some_behind f (Some x) some = refl

pub unwrap-ids-requires : goal.unwrap-ids-requires
unwrap-ids-requires c =
    let place : has_room_for c.self.inside.ids.entries c.args.file.name ≡ true = sym (has_place-is c.self.inside.ids.entries c.args.file.name) ∙ (ready c).room.1 in
    let there = some_where (ids_of c.self.inside.ids.entries c.args.file.name) place in
    some_behind (λ x. x.now) c.get_mut.result (ap is_some c.get_mut.ensures.value ∙ there)

apt : (c : After-unwrap) → CanCommit (the_view c.self.inside) (Learn c.args.file c.args.text)
apt c = rw (← c.self.view_is) at c.requires

pushed : (c : After-unwrap) → c.push.new.self.items ≡ c.self.inside.files.items ++ (c.args.file, c.args.text) ∷ []
pushed c = search rules

count : (c : After-unwrap) → c.known-id.result ≡ length c.self.inside.files.items
count c = c.known-id.ensures.count ∙ ap (λ (texts : Texts). length texts.known) (sym c.self.view_is)

here : (c : After-unwrap) → ids_of c.self.inside.ids.entries c.args.file.name ≡ Some c.unwrap-ids.result.now
here c = sym c.get_mut.ensures.value ∙ ap option_copied_mut c.unwrap-ids.ensures

adds : (c : After-unwrap) → c.add.new.self.numbers.items ≡ c.unwrap-ids.result.now.numbers.items ++ (c.args.file.folder, length c.self.inside.files.items) ∷ []
adds c = c.add.ensures ∙ ap (λ id. c.unwrap-ids.result.now.numbers.items ++ (c.args.file.folder, id) ∷ []) (count c)

put : (c : After-unwrap) → IsPut c.self.inside.ids.entries c.args.file.name c.add.new.self (c.get_mut.follows.lender c.add.new.self).entries
put c = λ other. ((c.get_mut.follows.holds c.add.new.self).3 (ap is_some (here c))).0 other

pub add-requires : goal.add-requires
add-requires c =
    let place : has_room_for c.self.inside.ids.entries c.args.file.name ≡ true = sym (has_place-is c.self.inside.ids.entries c.args.file.name) ∙ (rw (← c.self.view_is) at c.requires).room.1 in
    ap (λ found. option_map_or has_room found false) (ap option_copied_mut (sym c.unwrap-ids.ensures) ∙ c.get_mut.ensures.value) ∙ place

pub invariant_of-self : goal.invariant_of-self
invariant_of-self c =
    rw (pushed c, c.weigh_text.ensures) (
      IsWithin-learnt c.self.inside.files.items _ _ _ _ _ c.self.invariant.0 (apt c).fits,
      IsIndex-learnt c.file_laws.ensures.same c.self.inside.files.items c.self.inside.ids.entries _ c.args.file c.args.text c.self.invariant.1 (apt c).apt c.unwrap-ids.result.now c.add.new.self (here c) (adds c) (put c),
    )

pub returns-clause-learnt : goal.returns-clause-learnt
returns-clause-learnt c =
    subst (λ known. IsLearnt c.args.self.now.known known c.args.file c.args.text c.known-id.result) (sym (pushed c)) (
    subst (λ id. IsLearnt c.args.self.now.known (c.self.inside.files.items ++ (c.args.file, c.args.text) ∷ []) c.args.file c.args.text id) (sym (count c)) (
    subst (λ (texts : Texts). IsLearnt texts.known (c.self.inside.files.items ++ (c.args.file, c.args.text) ∷ []) c.args.file c.args.text (length c.self.inside.files.items)) c.self.view_is (
    is_learnt c.file_laws.ensures.same c.self.inside.files.items c.args.file c.args.text (apt c).apt
    )
    )
    )

pub returns-clause-change : goal.returns-clause-change
returns-clause-change c = rw (pushed c, new_id-is c.file_laws.ensures.same c.self.inside.files.items c.args.file c.args.text (apt c).apt, count c) refl
