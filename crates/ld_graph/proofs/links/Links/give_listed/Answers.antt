use Rattle.std.proofs.Common.{◌∙◌, ap, sym, option_map}
use Rattle.ld_graph.specs.Items.{with_names_at}
use Rattle.ld_graph.proofs.Rewritten.{absent_stays}
use Rattle.ld_graph.proofs.links.Links.give_listed.Goals as goal

pub returns-in_default : goal.returns-in_default
returns-in_default c =
    sym (ap (λ names. with_names_at c.args.self.now.items c.args.text (option_map (λ names. names.items) names)) c.in_default.is ∙ absent_stays c.args.self.now.items c.args.text c.requires.absent)
