-- Messages that are served one after another.
use Rattle.std.proofs.Common.{◌≡◌, ℕ, Bool, true, false, List, [], ◌∷◌, ◌++◌, refl, sym, ap, subst, ◌∙◌}
use Rattle.std.proofs.lemmas.List.{append-nil, append_assoc}
use Rattle.broker_answers.specs.Streams.{Raw}
use Rattle.broker_answers.specs.Servants.{Acting}
use Rattle.broker_answers.specs.Objects.{Served}
use Rattle.broker_answers.specs.Serving.{Item, MovesRaw, Moves, ServesRaw, Serves, Unless, closes}

pub serves_alone : {S : Type 0} (acting : Acting S) (served : Served) (raw : Raw) (before after : S) (octets : List ℕ)
    (closed : Bool) → ServesRaw acting served raw before octets closed after
    → Serves acting served (raw ∷ []) before octets closed after
serves_alone acting served raw before after octets true one = (true, after, octets, one, (refl, refl, refl))
serves_alone acting served raw before after octets false one =
    (false, after, octets, one, ([], sym (append-nil octets), (refl, refl, refl)))

-- others behind them
pub serves_then : {S : Type 0} (acting : Acting S) (served : Served) (raws others : List Raw) (before between after : S)
    (octets more : List ℕ) (closed : Bool) → Serves acting served raws before octets false between
    → Serves acting served others between more closed after
    → Serves acting served (raws ++ others) before (octets ++ more) closed after
serves_then {S} acting served [] others before between after octets more closed (none, goes_on, same) further =
    subst (λ (o : List ℕ). Serves acting served others before (o ++ more) closed after) (sym none)
    (subst (λ (s : S). Serves acting served others s more closed after) same further)
serves_then acting served (r ∷ rs) others before between after octets more closed
    (true, s, first, head, (is, goes_on, same)) further =
    absurd (cc)
serves_then acting served (r ∷ rs) others before between after octets more closed
    (false, s, first, head, (ours, is, rest)) further = (
      false,
      s,
      first,
      head,
      (
        ours ++ more,
        ap (λ (o : List ℕ). o ++ more) is ∙ append_assoc first ours more,
        serves_then acting served rs others s between after ours more closed rest further,
      ),
    )

-- what stands behind one that closes isn't looked at
pub serves_closed : {S : Type 0} (acting : Acting S) (served : Served) (raws more : List Raw) (before after : S)
    (octets : List ℕ) → Serves acting served raws before octets true after
    → Serves acting served (raws ++ more) before octets true after
serves_closed acting served [] more before after octets (none, goes_on, same) = absurd (cc)
serves_closed acting served (r ∷ rs) more before after octets (true, s, first, head, done) =
    (true, s, first, head, done)
serves_closed acting served (r ∷ rs) more before after octets (false, s, first, head, (others, is, further)) =
    (false, s, first, head, (others, is, serves_closed acting served rs more s after others further))

-- the state alone
pub moved_of : {S : Type 0} (acting : Acting S) (served : Served) (raws : List Raw) (before after : S) (octets : List ℕ)
    (closed : Bool) → Serves acting served raws before octets closed after → Moves acting served raws before after
moved_of acting served [] before after octets closed (none, goes_on, same) = same
moved_of acting served (r ∷ rs) before after octets closed (true, s, first, head, (is, shut, same)) = (
  head.item,
  s,
  head.moves,
  subst (λ (b : Bool). Unless b (after ≡ s) (Moves acting served rs s after)) head.closed_is same,
)
moved_of acting served (r ∷ rs) before after octets closed (false, s, first, head, (others, is, further)) = (
  head.item,
  s,
  head.moves,
  subst (λ (b : Bool). Unless b (after ≡ s) (Moves acting served rs s after)) head.closed_is
      (moved_of acting served rs s after others closed further),
)

unless_same : (b : Bool) (P : Type 0) → P → Unless b P P
unless_same true P p = p
unless_same false P p = p

pub moves_alone : {S : Type 0} (acting : Acting S) (served : Served) (raw : Raw) (item : Item) (before after : S)
    → MovesRaw acting served raw item before after → Moves acting served (raw ∷ []) before after
moves_alone acting served raw item before after one =
    (item, after, one, unless_same (closes item) (after ≡ after) refl)

-- others behind them that are seen to alone
pub moves_then : {S : Type 0} (acting : Acting S) (served : Served) (raws others : List Raw) (before between after : S)
    (octets : List ℕ) → Serves acting served raws before octets false between → Moves acting served others between after
    → Moves acting served (raws ++ others) before after
moves_then {S} acting served [] others before between after octets (none, goes_on, same) further =
    subst (λ (s : S). Moves acting served others s after) same further
moves_then acting served (r ∷ rs) others before between after octets (true, s, first, head, (is, goes_on, same))
    further =
    absurd (cc)
moves_then acting served (r ∷ rs) others before between after octets (false, s, first, head, (ours, is, rest)) further = (
  head.item,
  s,
  head.moves,
  subst (λ (b : Bool). Unless b (after ≡ s) (Moves acting served (rs ++ others) s after)) head.closed_is
      (moves_then acting served rs others s between after ours rest further),
)
