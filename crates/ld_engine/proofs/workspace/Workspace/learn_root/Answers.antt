use Rattle.std.proofs.Common.{◌≡◌, ap, sym, ◌∙◌, None}
use Rattle.ld_texts.specs.Known.{id_of}
use Rattle.ld_texts.specs.Learning.{Texts}
use Rattle.ld_engine.specs.Learning.{wanted_for}
use Rattle.ld_engine.proofs.Roots.{root-wanted}
use Rattle.ld_engine.proofs.Wanted.{learns-file, learns-none, none-wanted, stops-any, told-first}
use Rattle.ld_engine.proofs.workspace.Workspace.learn_root.Goals as goal

pub returns-clause-learns : goal.returns-clause-learns
returns-clause-learns g c =
    let known = c.args.self.now.texts.known in
    let root = c.args.root.now in
    let unknown : id_of known root ≡ None = sym (c.in_default.ensures ∙ ap (λ (t : Texts). id_of t.known root) c.texts.ensures.texts) in
    learns-file (wanted_for root) known known c.learn_copy.new.self.texts.known root c.learn_copy.result (learns-none (wanted_for root) known) (root-wanted known root unknown) c.learn_copy.ensures.learns

pub returns-clause-stops : goal.returns-clause-stops
returns-clause-stops g c =
    let known = c.args.self.now.texts.known in
    let root = c.args.root.now in
    let unknown : id_of known root ≡ None = sym (c.in_default.ensures ∙ ap (λ (t : Texts). id_of t.known root) c.texts.ensures.texts) in
    stops-any c.args.self.now.limits (wanted_for root) root known c.learn_copy.new.self.texts.known c.learn_copy.result (root-wanted known root unknown) c.learn_copy.ensures.learns c.learn_copy.ensures.stops

pub returns-clause-told : goal.returns-clause-told
returns-clause-told g c =
    let known = c.args.self.now.texts.known in
    let root = c.args.root.now in
    let unknown : id_of known root ≡ None = sym (c.in_default.ensures ∙ ap (λ (t : Texts). id_of t.known root) c.texts.ensures.texts) in
    told-first c.args.self.now.limits (wanted_for root) root known c.learn_copy.new.self.texts.known (g.S.Shelf.files c.args.shelf.now) c.learn_copy.result (root-wanted known root unknown) c.learn_copy.ensures.told

pub returns-clause-unread : goal.returns-clause-unread
returns-clause-unread g c none =
    let known = c.args.self.now.texts.known in
    let root = c.args.root.now in
    let unknown : id_of known root ≡ None = sym (c.in_default.ensures ∙ ap (λ (t : Texts). id_of t.known root) c.texts.ensures.texts) in
    none-wanted (wanted_for root) known known root (learns-none (wanted_for root) known) (root-wanted known root unknown) none
