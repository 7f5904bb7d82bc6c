-- Rests and histories.
use Rattle.std.proofs.Common.{◌≡◌, ℕ, List, [], ◌∷◌, map, refl, ap₂}
use Rattle.broker_answers.specs.Streams.{Stream}
use Rattle.broker_answers.specs.Talk.{Event, World, world, History, Since, Shut, Serving, Moving, Follows, rests, histories}
use Rattle.broker_answers.proofs.SameTalk.{AreSame, IsLeft, follows_same, rests_alike}
use Rattle.iiop_broker.specs.Rests.{IsTalked, rest_of}

left_is : (h : History) (stream : Stream) → IsLeft h stream → stream ≡ rest_of h
left_is (Since octets) stream e = e
left_is Shut stream e = e

rests_are : (there : List (ℕ × Stream)) (kept : List (ℕ × History)) → AreSame (λ stream h. IsLeft h stream) there kept
    → there ≡ map (λ one. (one.0, rest_of one.1)) kept
rests_are [] [] same = refl
rests_are [] (k ∷ ks) same = absurd same
rests_are (t ∷ ts) [] same = absurd same
rests_are (t ∷ ts) (k ∷ ks) same =
    ap₂ (λ (x : ℕ × Stream) (xs : List (ℕ × Stream)). x ∷ xs)
    (ap₂ (λ (n : ℕ) (s : Stream). (n, s)) same.0 (left_is k.1 t.1 same.1)) (rests_are ts ks same.2)

pub is_talked : {S : Type 0} (Serves : Serving S) (Moves : Moving S) (servant : S) (said : List (Event × List ℕ))
    (after : World S Stream) → Follows rests Serves Moves (world servant []) said after
    → IsTalked Serves Moves servant said after
is_talked Serves Moves servant said after h =
    let r = follows_same rests histories (λ stream h. IsLeft h stream) rests_alike Serves Moves said (world servant [])
    (world servant []) after (record { servant = refl; there = tt }) h in
    record { talked = r.0; follows = r.1; state = r.2.servant; rests = rests_are after.there r.0.there r.2.there }
