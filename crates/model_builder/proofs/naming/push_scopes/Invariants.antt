use Rattle.std.proofs.Common.{◌≡◌, ◌++◌, map, drop}
use Rattle.std.specs.String.{string_bytes}
use Rattle.model_builder.specs.Naming.{with_colons}
use Rattle.model_builder.proofs.naming.push_scopes.Given as goal

-- what was added, and the names that are left
abbrev pub invariant-loop-scope : goal.invariant-loop-scope
invariant-loop-scope l =
    string_bytes l.out ++ with_colons (map (λ n. n.now) (drop l.scope-index l.scopes))
    ≡ string_bytes l.fn.out ++ with_colons (map (λ n. n.now) l.scopes)
