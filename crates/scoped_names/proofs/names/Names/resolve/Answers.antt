use Rattle.std.proofs.Common.{◌≡◌, ◌∙◌, ap, sym}
use Rattle.idl_tree.specs.Starts.{name_start, leaf_at as at}
use Rattle.name_table.specs.Search.{sees}
use Rattle.scoped_names.specs.Tests.{resolved}
use Rattle.scoped_names.proofs.Sights.{found_finds}
use Rattle.scoped_names.proofs.names.Names.resolve.Goals as goal

pub returns-clause-finds : goal.returns-clause-finds
returns-clause-finds c = λ entry.
    let es = c.args.self.now.entries in
    let scope = c.args.scope.0 in
    let name = c.args.name.now in
    let told : c.resolve.result ≡ resolved es scope name =
    c.resolve.ensures.told ∙ ap (λ n. resolved n.entries scope name) c.self.view_is in
    let both = found_finds es (at (name_start name)) (sees es scope name) entry in
    (λ is. both.0 (sym told ∙ is), λ is. told ∙ both.1 is)
