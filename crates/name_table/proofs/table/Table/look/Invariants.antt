use Rattle.std.proofs.Common.{◌≡◌, ◌<◌, ◌^◌, ℕ, drop, length, map}
use Rattle.name_table.specs.declared.search.Sight.TheVariants.{Seen}
use Rattle.name_table.specs.Search.{sees, inside, word}
use Rattle.name_table.proofs.table.Table.look.Given as goal

abbrev pub invariant-loop-identifier : goal.invariant-loop-identifier
invariant-loop-identifier l = record {
  small : (e : ℕ) → l.seen ≡ Seen e → e < 2 ^ 63;
  placed : (e : ℕ) → l.seen ≡ Seen e → e < length l.self;
  same : inside l.self l.token l.seen (map word (drop l.identifier-index l.identifier-items))
      ≡ sees l.self l.fn.scope.0 l.name;
}
