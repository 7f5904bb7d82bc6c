-- How many connections came that told nothing.
use Rattle.std.specs.Bool.{⊤}
use Rattle.std.proofs.Common.{◌≡◌, ℕ, List, [], length, replicate, sym, ap, ◌∙◌, subst}
use Rattle.std.proofs.lemmas.List.{length-replicate}
use Rattle.type_model.specs.ModelRules.{Parts}
use Rattle.broker_sockets.specs.Serving.{IsDone, IsDoneTogether}
use Rattle.broker_sockets.specs.Visits.{untold}

module _ (model : Parts) (word : List ℕ) (count : ℕ) where
  just_served : (came : ℕ) → IsDone (λ gone. ⊤) model word count [] (replicate came untold)
      → IsDone (λ gone. ⊤) model word count [] (replicate count untold)
  just_served came is =
      let all : came ≡ count = sym (length-replicate came untold) ∙ ap length is.served_all.came_is
      ∙ is.served_all.count_is in
      subst (λ n. IsDone (λ gone. ⊤) model word count [] (replicate n untold)) all is

  -- just as many came as were served
  pub all_came : (first came : ℕ) → first ≡ 0
      → IsDone (λ gone. ⊤) model word count (replicate first untold) (replicate came untold)
      → IsDone (λ gone. ⊤) model word count [] (replicate count untold)
  all_came first came none is =
      just_served came (subst (λ n. IsDone (λ gone. ⊤) model word count (replicate n untold) (replicate came untold))
      none is)

  pub many_came : (idle came : ℕ) → IsDoneTogether (λ ended. ⊤) model word idle (replicate came untold)
      → length (replicate came untold) ≡ count
      → IsDoneTogether (λ ended. ⊤) model word idle (replicate count untold)
  many_came idle came is all =
      subst (λ n. IsDoneTogether (λ ended. ⊤) model word idle (replicate n untold))
      (sym (length-replicate came untold) ∙ all) is
