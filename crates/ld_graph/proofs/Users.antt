-- Texts that refer by a name or no longer do.
use Rattle.std.proofs.Common.{◌≡◌, ◌++◌, ◌⊎◌, ℕ, zero, suc, List, [], ◌∷◌, Option, Some, None, Bor, MutBor, map, get_or, set, inl, inr, ⊎_elim, refl, sym, ap, ◌∙◌, subst}
use Rattle.std.proofs.lemmas.Bool.Decides.{eqb_tells}
use Rattle.std.proofs.lemmas.List.Elements.{Contains-append_left, Contains-append_right, Contains-push_cases}
use Rattle.std.specs.Prelude.{◌↔◌, false, true}
use Rattle.std.specs.List.{Contains}
use Rattle.std.proofs.lemmas.List.{map-append}
use Rattle.std.specs.Option.{IsSome, option_copied, option_copied_mut, option_map, option_map_or}
use Rattle.slab.specs.Slab.{get, with_value}
use Rattle.ld_graph.specs.Inside.Nodes.{AreKeysOf, CanAdd, Forgets, KeepsNames, Learns, Nodes, has_spare, key_of, passes_at, users_at}
use Rattle.ld_graph.specs.declared.node.Node.{Node}
use Rattle.ld_graph.proofs.Listed.{first_or, here, none_in}

-- ---- the node at one key is another

written : (slots : List (Option Node)) (key : ℕ) (old new : Node) → get_or slots key None ≡ Some old → get_or (set slots key (Some new)) key None ≡ Some new
written [] key old new is = cc
written (slot ∷ slots) zero old new is = refl
written (slot ∷ slots) (suc key) old new is = written slots key old new is

unwritten : (slots : List (Option Node)) (key other : ℕ) (new : Node) → (other ≡ key → ⊥) → get_or (set slots key (Some new)) other None ≡ get_or slots other None
unwritten [] key other new differs = refl
unwritten (slot ∷ slots) zero zero new differs = absurd (differs refl)
unwritten (slot ∷ slots) zero (suc other) new differs = refl
unwritten (slot ∷ slots) (suc key) zero new differs = refl
unwritten (slot ∷ slots) (suc key) (suc other) new differs = unwritten slots key other new (λ same. differs (ap suc same))

pub same_or_not : (other key : ℕ) → (other ≡ key) ⊎ (other ≡ key → ⊥)
same_or_not other key = ⊎_elim (λ yes. inl yes.1) (λ no. inr no.1) (eqb_tells other key)

module _ (nodes : Nodes) (key : ℕ) (old new : Node) (is : get nodes key ≡ Some old) where
  abbrev after : Nodes
  after = with_value nodes key new

  pub at_key : get after key ≡ Some new
  at_key = written nodes.slots key old new is

  pub at_other : (other : ℕ) → (other ≡ key → ⊥) → get after other ≡ get nodes other
  at_other other differs = unwritten nodes.slots key other new differs

  -- what is the same of both nodes is the same at each key
  pub same_at : {A : Type 0} (f : Option Node → A) → f (Some new) ≡ f (Some old) → (other : ℕ) → f (get after other) ≡ f (get nodes other)
  same_at f same other =
      ⊎_elim
      (λ equal. ap (λ k. f (get after k)) equal ∙ ap f at_key ∙ same ∙ sym (ap f is) ∙ sym (ap (λ k. f (get nodes k)) equal))
      (λ differs. ap f (at_other other differs)) (same_or_not other key)

  pub keeps_names : new.name ≡ old.name → new.numbers ≡ old.numbers → KeepsNames nodes after
  keeps_names name numbers = record {
    names = same_at (option_map (λ (node : Node). node.name)) (ap Some name);
    numbers = same_at (λ node. option_map_or (λ (node : Node). node.numbers.items) node []) (ap (λ numbers. numbers.items) numbers);
  }

  abbrev users_in : Option Node → List ℕ
  users_in node = option_map_or (λ (one : Node). one.users.items) node []

  module _ (text : ℕ) where
    pub learnt : new.name ≡ old.name → new.numbers ≡ old.numbers → ((user : ℕ) → Contains new.users.items user ↔ (Contains old.users.items user ⊎ (user ≡ text))) → CanAdd new text → Learns nodes after (key ∷ []) text
    learnt name numbers users room = record {
      same = keeps_names name numbers;
      users = λ other user. ⊎_elim
          (λ equal. subst (λ k. Contains (users_at after k) user ↔ (Contains (users_at nodes k) user ⊎ Contains (key ∷ []) k × (user ≡ text))) (sym equal) (
            (λ c. ⊎_elim (λ was. inl (subst (λ node. Contains (users_in node) user) (sym is) was)) (λ same. inr (here key [], same)) ((users user).0 (subst (λ node. Contains (users_in node) user) at_key c))),
            (λ either. subst (λ node. Contains (users_in node) user) (sym at_key) ((users user).1 (⊎_elim (λ was. inl (subst (λ node. Contains (users_in node) user) is was)) (λ more. inr more.1) either))),
          ))
          (λ differs. (
            (λ c. inl (subst (λ node. Contains (users_in node) user) (at_other other differs) c)),
            (λ either. subst (λ node. Contains (users_in node) user) (sym (at_other other differs)) (⊎_elim (λ was. was) (λ more. absurd (⊎_elim (λ same. differs (sym same)) (none_in other) (first_or other key [] more.0))) either)),
          ))
          (same_or_not other key);
      room = λ other can. ⊎_elim (λ equal. (new, ap (get after) equal ∙ at_key, room)) (λ differs. (can.0, at_other other differs ∙ can.1, can.2)) (same_or_not other key);
    }

    pub forgotten : new.name ≡ old.name → new.numbers ≡ old.numbers → ((user : ℕ) → Contains new.users.items user ↔ Contains old.users.items user × ((user ≡ text) → ⊥)) → (has_spare old ≡ true → has_spare new ≡ true) → Forgets nodes after (key ∷ []) text
    forgotten name numbers users spare = record {
      same = keeps_names name numbers;
      users = λ other user. ⊎_elim
          (λ equal. subst (λ k. Contains (users_at after k) user ↔ Contains (users_at nodes k) user × (Contains (key ∷ []) k → (user ≡ text) → ⊥)) (sym equal) (
            (λ c. let both = (users user).0 (subst (λ node. Contains (users_in node) user) at_key c) in (subst (λ node. Contains (users_in node) user) (sym is) both.0, λ in_keys. both.1)),
            (λ both. subst (λ node. Contains (users_in node) user) (sym at_key) ((users user).1 (subst (λ node. Contains (users_in node) user) is both.0, both.1 (here key [])))),
          ))
          (λ differs. (
            (λ c. (subst (λ node. Contains (users_in node) user) (at_other other differs) c, λ in_keys. absurd (⊎_elim (λ same. differs (sym same)) (none_in other) (first_or other key [] in_keys)))),
            (λ both. subst (λ node. Contains (users_in node) user) (sym (at_other other differs)) both.0),
          ))
          (same_or_not other key);
      spare = λ other has. ⊎_elim
          (λ equal. ap (λ k. passes_at has_spare after k) equal ∙ ap (λ node. option_map_or has_spare node false) at_key ∙ spare (sym (ap (λ node. option_map_or has_spare node false) is) ∙ sym (ap (λ k. passes_at has_spare nodes k) equal) ∙ has))
          (λ differs. ap (λ node. option_map_or has_spare node false) (at_other other differs) ∙ has) (same_or_not other key);
    }

-- ---- one text more or less among the users of several names

pub forgets_none : (nodes : Nodes) (text : ℕ) → Forgets nodes nodes [] text
forgets_none nodes text = record {
  same = record { names = λ key. refl; numbers = λ key. refl };
  users = λ key user. ((λ c. (c, λ in_keys. absurd (none_in key in_keys))), (λ both. both.0));
  spare = λ key has. has;
}

then_keeps : (first second third : Nodes) → KeepsNames first second → KeepsNames second third → KeepsNames first third
then_keeps first second third one two = record { names = λ key. two.names key ∙ one.names key; numbers = λ key. two.numbers key ∙ one.numbers key }

module _ (first second third : Nodes) (keys : List ℕ) (key text : ℕ) where
  pub forgets_more : Forgets first second keys text → Forgets second third (key ∷ []) text → Forgets first third (keys ++ key ∷ []) text
  forgets_more one two = record {
    same = then_keeps first second third one.same two.same;
    users = λ other user. (
      (λ c.
          let behind = (two.users other user).0 c in
          let before = (one.users other user).0 behind.0 in
          (before.0, λ in_keys. ⊎_elim before.1 (λ same. behind.1 (subst (λ k. Contains (k ∷ []) other) (sym same) (here other []))) (Contains-push_cases keys key other in_keys))),
      (λ both. (two.users other user).1 ((one.users other user).1 (both.0, λ in_keys. both.1 (Contains-append_left keys (key ∷ []) other in_keys)), λ in_key. both.1 (Contains-append_right keys (key ∷ []) other in_key))),
    );
    spare = λ other has. two.spare other (one.spare other has);
  }

  pub learns_more : Learns first second keys text → Learns second third (key ∷ []) text → Learns first third (keys ++ key ∷ []) text
  learns_more one two = record {
    same = then_keeps first second third one.same two.same;
    users = λ other user. (
      (λ c. ⊎_elim (λ was. ⊎_elim inl (λ more. inr (Contains-append_left keys (key ∷ []) other more.0, more.1)) ((one.users other user).0 was)) (λ more. inr (Contains-append_right keys (key ∷ []) other more.0, more.1)) ((two.users other user).0 c)),
      (λ either. (two.users other user).1 (⊎_elim (λ was. inl ((one.users other user).1 (inl was))) (λ more. ⊎_elim (λ in_keys. inl ((one.users other user).1 (inr (in_keys, more.1)))) (λ same. inr (subst (λ k. Contains (k ∷ []) other) (sym same) (here other []), more.1)) (Contains-push_cases keys key other more.0)) either)),
    );
    room = λ other can. two.room other (one.room other can);
  }

pub learns_none : (nodes : Nodes) (text : ℕ) → Learns nodes nodes [] text
learns_none nodes text = record {
  same = record { names = λ key. refl; numbers = λ key. refl };
  users = λ key user. ((λ c. inl c), (λ either. ⊎_elim (λ was. was) (λ more. absurd (none_in key more.0)) either));
  room = λ key can. can;
}

-- ---- the keys of names

pub copied_some : (found : Option (Bor ℕ)) (key : ℕ) → option_copied found ≡ Some key → IsSome found
copied_some None key is = cc
copied_some (Some one) key is = search

pub keys_more : (keys : List (List ℕ × ℕ)) (found : List ℕ) (names : List (List ℕ)) (key : ℕ) (name : List ℕ) → AreKeysOf keys found names → key_of keys name ≡ Some key → AreKeysOf keys (found ++ key ∷ []) (names ++ name ∷ [])
keys_more keys found names key name are is =
    map-append Some found (key ∷ []) ∙ ap (λ front. front ++ Some key ∷ []) are ∙ ap (λ last. map (key_of keys) names ++ last ∷ []) (sym is) ∙ sym (map-append (key_of keys) names (name ∷ []))

pub copied_mut_some : {X : Type 0} (found : Option (MutBor X)) (value : X) → option_copied_mut found ≡ Some value → IsSome found
copied_mut_some None value is = cc
copied_mut_some (Some one) value is = search
