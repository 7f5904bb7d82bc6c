use Rattle.std.proofs.Common.{◌≡◌, true, false, sym, subst, ◌∙◌, arith}
use Rattle.type_paths.specs.Levels.{IsLevel}
use Rattle.type_paths.proofs.PathLaws.{no_path_shallow, shallow_no_path, round_last}
use Rattle.type_paths.proofs.TableLaws.{in_within}
use Rattle.type_paths.proofs.find.find_fault_of.Goals as goal

pub returns-in_default-clause-none : goal.returns-in_default-clause-none
returns-in_default-clause-none c = λ number lt.
    let types = c.args.types.now in
    let most = c.greatest-greatest.result in
    let level = subst (IsLevel types most 64) (sym c.deref.ensures.value) c.in_ok-deep.ensures.level in
    no_path_shallow types most c.greatest-greatest.ensures 64 number
    (λ path. c.in_default.ensures.none number ((level.same number).1 path))

pub returns-then-not-branch-clause-some : goal.returns-then-not-branch-clause-some
returns-then-not-branch-clause-some c =
    let types = c.args.types.now in
    let most = c.greatest-greatest.result in
    let node = c.in-Some.node in
    let level = subst (IsLevel types most 64) (sym c.deref.ensures.value) c.in_ok-deep.ensures.level in
    let within = in_within c.deref.result.now node c.in-Some.ensures.some in
    let long = level.long in
    record {
      never = λ token round.
          let yes = c.in_ok-goes_round.ensures.1 (round_last types token most c.greatest-greatest.ensures round) in
          let bad : true ≡ false = sym yes ∙ c.if-not-branch.true in
          absurd cc;
      node = node;
      within = omega arith;
      deep = λ shallow. shallow_no_path types most 64 node shallow ((level.same node).0 c.in-Some.ensures.some);
      first = λ less lt. no_path_shallow types most c.greatest-greatest.ensures 64 less
          (λ path. c.in-Some.ensures.first less lt ((level.same less).1 path));
      stands = c.own_at-at.ensures;
    }
