use Rattle.std.proofs.Common.{◌≡◌, ◌<◌, ◌+◌, ◌++◌, ◌∷◌, [], ℕ, List, Some, get_or, length, map, take, sym, ap, ◌∙◌, subst, arith}
use Rattle.std.proofs.lemmas.List.{length_push, take_all, take_more}
use Rattle.std.specs.Prelude.{if◌then◌else◌}
use Rattle.std.specs.Option.{option_copied}
use Rattle.std.specs.Result.{is_ok}
use Rattle.ld_graph.specs.Inside.Nodes.{AreKeysOf, CanAddAt, CanLearn, Learns, key_of}
use Rattle.ld_graph.proofs.Users.{copied_some, keys_more, learns_more, learns_none}
use Rattle.ld_graph.proofs.linking.learn_names.Goals as goal

pub loop-name-init : goal.loop-name-init
loop-name-init c = record {
  learns = subst (λ (keys : List ℕ). Learns c.args.nodes.now c.args.nodes.now keys c.args.text) (sym c.requires.empty) (learns_none c.args.nodes.now c.args.text);
  keys = ap (map Some) c.requires.empty;
  size = ap length c.requires.empty;
  room = c.requires.room;
}

pub unwrap-key-requires : goal.unwrap-key-requires
unwrap-key-requires c =
    let names = c.args.names.now in
    let can : CanLearn c.args.nodes.now c.args.keys.now.entries c.args.text (get_or names c.loop-name.name-index c.name-item.result) = c.requires.names c.loop-name.name-index c.name-item.result c.loop-name-test.true in
    copied_some c.get.result can.0 (c.get.ensures.value ∙ ap (key_of c.args.keys.now.entries) c.name-item.is ∙ can.1)

pub learn_name-requires : goal.learn_name-requires
learn_name-requires c =
    let names = c.args.names.now in
    let can : CanLearn c.args.nodes.now c.args.keys.now.entries c.args.text (get_or names c.loop-name.name-index c.name-item.result) = c.requires.names c.loop-name.name-index c.name-item.result c.loop-name-test.true in
    let key : Some c.unwrap-key.result.now ≡ Some can.0 = sym (ap option_copied c.unwrap-key.ensures) ∙ c.get.ensures.value ∙ ap (key_of c.args.keys.now.entries) c.name-item.is ∙ can.1 in
    let same : can.0 ≡ c.unwrap-key.result.now = cc in
    subst (λ (key : ℕ). CanAddAt c.loop-name.nodes c.args.text key) same (c.loop-name.invariant.learns.room can.0 can.2)

pub unwrap-requires : goal.unwrap-requires
unwrap-requires c =
    let less : length c.loop-name.found.items < length c.args.names.now = omega (arith, c.loop-name.invariant.size, c.loop-name-test.true) in
    c.push.ensures.succeeds (omega (arith, less, c.loop-name.invariant.room))

pub loop-name-preserved : goal.loop-name-preserved
loop-name-preserved c =
    let names = c.args.names.now in
    let index = c.loop-name.name-index in
    let keys = c.args.keys.now.entries in
    let key = c.unwrap-key.result.now in
    let name = get_or names index c.name-item.result in
    let can : CanLearn c.args.nodes.now keys c.args.text name = c.requires.names index c.name-item.result c.loop-name-test.true in
    let same : key_of keys name ≡ Some key = sym (ap (key_of keys) c.name-item.is) ∙ sym c.get.ensures.value ∙ ap option_copied c.unwrap-key.ensures in
    let pushed : c.push.new.self.items ≡ c.loop-name.found.items ++ key ∷ [] = c.push.ensures.items ∙ ap (λ pushed. if is_ok pushed then c.loop-name.found.items ++ key ∷ [] else c.loop-name.found.items) c.unwrap.ensures in
    let longer = keys_more keys c.loop-name.found.items (take index names) key name c.loop-name.invariant.keys same in
    record {
      learns = subst (λ (keys : List ℕ). Learns c.args.nodes.now c.learn_name.new.nodes keys c.args.text) (sym pushed) (learns_more c.args.nodes.now c.loop-name.nodes c.learn_name.new.nodes c.loop-name.found.items key c.args.text c.loop-name.invariant.learns c.learn_name.ensures);
      keys = subst (λ (found : List ℕ). AreKeysOf keys found (take (index + 1) names)) (sym pushed) (subst (λ (first : List (List ℕ)). AreKeysOf keys (c.loop-name.found.items ++ key ∷ []) first) (sym (take_more names index c.name-item.result c.loop-name-test.true)) longer);
      size = omega (arith, ap length pushed, length_push c.loop-name.found.items key, c.loop-name.invariant.size);
      room = omega (arith, c.loop-name.invariant.room, c.push.ensures.capacity);
    }

pub returns-clause-learns : goal.returns-clause-learns
returns-clause-learns c = c.loop-name.invariant.learns

pub returns-clause-keys : goal.returns-clause-keys
returns-clause-keys c = c.loop-name.invariant.keys ∙ ap (map (key_of c.args.keys.now.entries)) (take_all c.loop-name.name-index c.args.names.now (omega arith))
