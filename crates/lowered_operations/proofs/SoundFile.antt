-- What a file is lowered to is sound, where each structure and union that it declares is defined.
use Rattle.std.proofs.Common.{◌≡◌, ◌∙◌, inl, inr, ℕ, suc, List, length, All, get_or, Option, Some, None, refl, ap, arith}
use Rattle.std.specs.Prelude.{slice_get, IfSome}
use Rattle.std.proofs.lemmas.Option.{slice_get-get_or, slice_get_within}
use Rattle.type_graph.specs.declared.node.Node.{Node}
use Rattle.type_graph.specs.GraphRules.{IsNode}
use Rattle.name_table.specs.Entry.{Entry}
use Rattle.scoped_names.specs.Introductions.{Introduction}
use Rattle.lowered_types.specs.declared.place.Place.{Place}
use Rattle.lowered_types.specs.Sound.{IsPlaceAmong}
use Rattle.lowered_types.specs.Lowered.{Lowered, place_in}
use Rattle.lowered_types.proofs.Growing.{IsRight}
use Rattle.lowered_types.proofs.Keeping.{HasBody, Keeps}
use Rattle.lowered_types.proofs.Settled.{IsDone}
use Rattle.lowered_operations.specs.Operations.{Defined}
use Rattle.lowered_operations.specs.Sound.{IsSoundException, IsSoundFile}
use Rattle.lowered_operations.proofs.Calls.{nothing_begun}
use Rattle.lowered_operations.proofs.OperationsKeep.{KeepsAll}

-- each structure and union is defined
abbrev pub AllDone : List Entry → List Introduction → Type 0
AllDone es g = (e : ℕ) → HasBody es e → IsDone g (suc e)

all_there : {T : Type 0} (P : T → Type 0) (xs : List T) → ((k : ℕ) (x : T) → slice_get xs k ≡ Some x → P x) → All P xs
all_there P xs h = λ k d lt. h k (get_or xs k d) (slice_get-get_or xs k d lt)

node_defined : (es : List Entry) (g : List Introduction) (w : Lowered) → Keeps es g nothing_begun w → AllDone es g
    → (n : ℕ) (node : Node) → slice_get w.nodes n ≡ Some node
    → IsRight w.nodes node → IsNode w.nodes node
node_defined es g w i done n node is (inr right) = right
node_defined es g w i done n node is (inl open_yet) =
    let left = i.left n (is ∙ ap Some open_yet) in
    absurd (left.again (done left.entry left.body))

place_sound : (w : Lowered) (o : Option Place)
    → ((p : Place) → o ≡ Some p → IsPlaceAmong w.nodes (length w.exceptions) p)
    → IfSome o (IsPlaceAmong w.nodes (length w.exceptions))
place_sound w None h = tt
place_sound w (Some p) h = h p refl

exception_sound : (es : List Entry) (g : List Introduction) (w : Lowered) → Keeps es g nothing_begun w
    → (k : ℕ) (x : ℕ × ℕ) → slice_get w.exceptions k ≡ Some x
    → IsSoundException (length es) w x
exception_sound es g w i k x is =
    let h = i.exceptions k x is in
    let within = slice_get_within w.places x.0 _ h.place in
    let long = i.long in
    record { entry = omega (arith, within, long); frame = h.frame; named = (k, ap place_in h.place) }

pub file_sound : (es : List Entry) (g : List Introduction) (d : Defined) → KeepsAll es g d → AllDone es g
    → IsSoundFile (length es) d
file_sound es g d h done =
    let i = h.types_kept in
    let w = d.types in
    let s = i.sound in
    let counted = s.counted in
    let members = s.members in
    record {
      types_sound = record {
        limited = s.limited;
        nodes = all_there (IsNode w.nodes) w.nodes
            (λ n node is. node_defined es g w i done n node is (s.nodes n node is));
        members = omega (arith, counted, members);
        sites = s.sites;
      };
      places_long = i.long;
      places = all_there (λ p. IfSome p (IsPlaceAmong w.nodes (length w.exceptions))) w.places
          (λ e o is. place_sound w o (λ p same. i.right e p (is ∙ ap Some same)));
      exceptions_few = s.exceptions;
      exceptions = all_there (IsSoundException (length es) w) w.exceptions (exception_sound es g w i);
      operations_few = h.few;
      signatures = h.signatures;
      interfaces_long = h.long;
      offers = h.offers;
    }
