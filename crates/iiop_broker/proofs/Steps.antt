-- Steps of a broker.
use Rattle.std.proofs.Common.{◌≡◌, ℕ, List, [], ◌++◌, length, take, Option, Some, refl, sym, ap, subst, ◌∙◌}
use Rattle.std.proofs.Math.Seq.{take-append_seam}
use Rattle.broker_answers.specs.Streams.{Raw, Stream, Open, Closed, cut}
use Rattle.broker_answers.specs.Connections.{at, put}
use Rattle.broker_answers.specs.Talk.{rests, world, Answers, Abandons}
use Rattle.broker_answers.specs.Servants.{Acting}
use Rattle.broker_answers.specs.Objects.{Served}
use Rattle.broker_answers.specs.Serving.{Moves, Serves}
use Rattle.iiop_broker.specs.declared.kept.Kept.{Kept}
use Rattle.iiop_broker.specs.Kept.{stream_of}
use Rattle.iiop_broker.specs.inner.Progress.{IsHeard, Stopped}

pub heard_step : {S : Type 0} (acting : Acting S) (served : Served) (c : ℕ) (before after : List (ℕ × Stream))
    (run : Option (List ℕ)) (rest octets : List ℕ) (servant servant' : S) (answer : List ℕ) (kept : Kept)
    → at c before ≡ Some (Open run rest) → IsHeard acting served (cut run (rest ++ octets)) servant answer kept servant'
    → after ≡ put c (stream_of kept) before
    → Answers rests (Serves acting served) (world servant before) c octets answer (world servant' after)
heard_step acting served c before after run rest octets servant servant' answer kept there h now = record {
  kept = Open run rest;
  there = there;
  closes = h.closed;
  servant = servant';
  served = h.serves;
  now = ap (world servant') (now ∙ ap (λ (k : Stream). put c k before) h.kept_is);
}

taken : (raws done left : List Raw) → raws ≡ done ++ left → take (length done) raws ≡ done
taken raws done left e = ap (take (length done)) e ∙ take-append_seam done left

pub stopped_step : {S : Type 0} (acting : Acting S) (served : Served) (c : ℕ) (before after : List (ℕ × Stream))
    (run : Option (List ℕ)) (rest octets : List ℕ) (servant servant' : S) → at c before ≡ Some (Open run rest)
    → Stopped acting served (cut run (rest ++ octets)).raws servant servant' → after ≡ put c Closed before
    → (j : ℕ) × Abandons rests (Moves acting served) (world servant before) c octets j [] (world servant' after)
stopped_step acting served c before after run rest octets servant servant' there h now = (
  length h.done,
  record {
    kept = Open run rest;
    there = there;
    servant = servant';
    moved = subst (λ (raws : List Raw). Moves acting served raws servant servant')
        (sym (taken (cut run (rest ++ octets)).raws h.done h.left h.raws_are)) h.moves;
    silent = refl;
    now = ap (world servant') now;
  },
)
