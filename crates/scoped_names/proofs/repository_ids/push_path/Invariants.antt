use Rattle.std.proofs.Common.{◌≡◌, ◌++◌, map, drop, codes}
use Rattle.std.specs.List.{flat_map}
use Rattle.std.specs.String.{string_bytes}
use Rattle.scoped_names.specs.RepositoryIds.{with_slashes}
use Rattle.scoped_names.proofs.repository_ids.push_path.Given as goal

-- what was added, and the names that are left
abbrev pub invariant-loop-name : goal.invariant-loop-name
invariant-loop-name l =
    string_bytes l.out ++ flat_map (λ m. codes "/" ++ m) (map (λ n. n.now) (drop l.name-index l.rest))
    ≡ string_bytes l.fn.out ++ with_slashes (map (λ n. n.now) l.fn.names)
