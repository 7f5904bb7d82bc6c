-- What words that ask for an answer say.
use Rattle.std.proofs.Common.{◌≡◌, ◌∙◌, ap, sym, Option, Some, None}
use Rattle.command_words.specs.Ask.{Answer, Ask, Asked, Call, CallAsk, Dump, DumpAsk, ask_of, asked_of}
use Rattle.command_words.specs.declared.task.Task.{Task}
use Rattle.command_words.specs.declared.task.Said.{Said}
use Rattle.command_words.specs.declared.task.Said.TheVariants as lines

module _ (said : Said) (ask : Ask) (told : asked_of said ≡ Some (Answer ask)) where
  -- a task that answers it
  pub asks_of : (task : Task) → said ≡ lines.Do task → ask_of task ≡ ask
  asks_of task is =
      let same : Some (Answer (ask_of task)) ≡ Some (Answer ask) = ap asked_of (sym is) ∙ told in cc

  -- not what answers nothing
  pub not_silent : (other : Said) → said ≡ other → asked_of other ≡ None → ⊥
  not_silent other is none =
      let bad : None ≡ Some (Answer ask) = sym none ∙ ap asked_of (sym is) ∙ told in absurd cc

  -- nor a call, nor a capture
  pub not_call : (other : Said) (call : CallAsk) → said ≡ other → asked_of other ≡ Some (Call call) → ⊥
  not_call other call is of_call =
      let bad : Some (Call call) ≡ Some (Answer ask) = sym of_call ∙ ap asked_of (sym is) ∙ told in absurd cc

  pub not_dump : (other : Said) (dump : DumpAsk) → said ≡ other → asked_of other ≡ Some (Dump dump) → ⊥
  not_dump other dump is of_dump =
      let bad : Some (Dump dump) ≡ Some (Answer ask) = sym of_dump ∙ ap asked_of (sym is) ∙ told in absurd cc
