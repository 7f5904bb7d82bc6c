use Rattle.std.proofs.Common.{All, sym, subst}
use Rattle.std.proofs.lemmas.List.Elements.{All-nil}
use Rattle.routine_checker.specs.inner.Noted.{AreNoted}
use Rattle.routine_checker.proofs.noted.Counts.of_entries.Goals as goal

pub returns : goal.returns
returns c = λ graph right. record {
  made = right;
  noted =
      subst (All (AreNoted graph)) (sym c.new.ensures.items) (All-nil (AreNoted graph));
}
