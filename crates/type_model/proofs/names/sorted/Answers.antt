use Rattle.std.proofs.Common.{ℕ, subst, arith}
use Rattle.type_model.proofs.NameOrder.{KeysUpTo, keys_are, keys_moved}
use Rattle.type_model.proofs.names.sorted.Goals as goal

pub returns-clause-keys : goal.returns-clause-keys
returns-clause-keys c =
    let names = c.args.names.now in
    let made = c.loop-place.keys.items in
    keys_moved names made c.sort_unstable.new.self.items c.sort_unstable.ensures.permutation
    (keys_are names made (subst (λ (n : ℕ). KeysUpTo names n made)
    (omega (arith, c.loop-place-test.false, c.loop-place.auto.place-end)) c.loop-place.invariant))
