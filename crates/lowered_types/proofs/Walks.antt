-- What structures and unions are lowered to, by the lists of their members and cases, step by step.
use Rattle.std.proofs.Common.{◌≡◌, ◌∙◌, ℕ, zero, suc, ◌+◌, ◌-◌, ◌<◌, ◌≤◌, List, [], ◌∷◌, drop, get_or, length, Result, Ok, Err, refl, sym, ap, arith}
use Rattle.std.proofs.Math.Seq.{drop-cons}
use Rattle.idl_tree.specs.declared.names.At.{At}
use Rattle.type_graph.specs.declared.node.Node.TheVariants.{Array}
use Rattle.idl_tree.specs.declared.names.Leaf.{Leaf}
use Rattle.idl_tree.specs.declared.types.Member.{Member}
use Rattle.idl_tree.specs.declared.types.Case.{Case}
use Rattle.idl_tree.specs.declared.types.SwitchType.{SwitchType}
use Rattle.idl_tree.specs.declared.types.StructType.{StructType, out-StructType}
use Rattle.idl_tree.specs.declared.types.UnionType.{UnionType, out-UnionType}
use Rattle.idl_tree.proofs.Rows.{struct_walk, union_walk}
use Rattle.idl_tree.specs.Starts.{leaf_at}
use Rattle.name_table.specs.Entry.{Entry}
use Rattle.scoped_names.specs.Reading.{◌>>◌}
use Rattle.lowered_types.specs.declared.fault.BuildFault.{BuildFault}
use Rattle.lowered_types.specs.declared.labels.Switch.{Switch}
use Rattle.lowered_types.specs.Faults.{each}
use Rattle.lowered_types.specs.Members.{Members}
use Rattle.lowered_types.specs.Lowered.{Numbered, Lowered, added_at, already, opened}
use Rattle.lowered_types.specs.SimpleTypes.{arrays, entry_of}
use Rattle.lowered_types.specs.Labels.{Arms, Switched, no_arms, switch_read}
use Rattle.lowered_types.specs.Types.{Cases, WithMembers, cases_of, no_members, struct_defined, struct_type, union_defined, union_type, with_case_of, with_cases, with_member, with_members, with_members_of}

-- ---- one thing behind another

pub goes_on : {A B : Type 0} (r : Result A BuildFault) (x : A) (next : A → Result B BuildFault) → r ≡ Ok x
    → (r >> next) ≡ next x
goes_on r x next is = ap (λ r. r >> next) is

pub stops : {A B : Type 0} (r : Result A BuildFault) (fault : BuildFault) (next : A → Result B BuildFault)
    → r ≡ Err fault → (r >> next) ≡ Err fault
stops r fault next is = ap (λ r. r >> next) is

-- ---- arrays

arrays_stop : (element : Numbered) (at : At) (xs : List ℕ) (k : ℕ) (fault : BuildFault)
    → arrays element at (drop k xs) ≡ Err fault → arrays element at xs ≡ Err fault
arrays_stop element at xs zero fault is = is
arrays_stop element at [] (suc k) fault is = is
arrays_stop element at (x ∷ xs) (suc k) fault is =
    ap (λ r. r >> λ inner. added_at inner.lowered (Array inner.number x) at) (arrays_stop element at xs k fault is)

-- an array before those that are there
pub arrays_off : (element : Numbered) (w : Lowered) (n : ℕ) (at : At) (left : ℕ) (xs : List ℕ) (fault : BuildFault)
    → 0 < left → left ≤ length xs
    → arrays element at (drop left xs) ≡ Ok (already w n) → added_at w (Array n (get_or xs (left - 1) 0)) at ≡ Err fault
    → arrays element at xs ≡ Err fault
arrays_off element w n at left xs fault some within told is =
    let next : suc (left - 1) ≡ left = omega arith in
    let lt : left - 1 < length xs = omega arith in
    let split : drop (left - 1) xs ≡ get_or xs (left - 1) 0 ∷ drop left xs =
    drop-cons xs (left - 1) 0 lt ∙ ap (λ j. get_or xs (left - 1) 0 ∷ drop j xs) next in
    arrays_stop element at xs (left - 1) fault
    (ap (arrays element at) split
    ∙ ap (λ r. r >> λ inner. added_at inner.lowered (Array inner.number (get_or xs (left - 1) 0)) at) told ∙ is)

-- ---- structures

abbrev pub struct_close : Leaf → Numbered → WithMembers → Result Numbered BuildFault
struct_close id o m = struct_defined m o.number (leaf_at id) >> λ behind. Ok (already behind o.number)

abbrev pub struct_more : List Entry → Leaf → List Member → ℕ → Numbered → WithMembers → Result Numbered BuildFault
struct_more es id rest e o m = each (with_member es (e + 1)) m rest >> struct_close id o

abbrev pub struct_open : List Entry → Leaf → Member → List Member → ℕ → Numbered → Result Numbered BuildFault
struct_open es id x rest e o =
    with_member es (e + 1) (with_members_of o.lowered no_members) x >> struct_more es id rest e o

abbrev pub struct_in : List Entry → Lowered → Leaf → Member → List Member → ℕ → Result Numbered BuildFault
struct_in es w id x rest e = opened w e (leaf_at id) >> struct_open es id x rest e

abbrev pub struct_all : List Entry → Lowered → ℕ → Leaf → Member → List Member → Result Numbered BuildFault
struct_all es w scope id x rest = entry_of es scope id >> struct_in es w id x rest

-- what a walk over members gives
abbrev MemberWalk : Type 0
MemberWalk = List Entry → ℕ → WithMembers → Result WithMembers BuildFault

abbrev TypeWalk : Type 0
TypeWalk = List Entry → Lowered → ℕ → Result Numbered BuildFault

pub struct_told : (es : List Entry) (w : Lowered) (scope : ℕ) (s : StructType) → struct_type es w scope s ≡
    struct_all es w scope (out-StructType s).identifier (out-StructType s).first.value (out-StructType s).rest.items
struct_told es w scope s =
    ap (λ walk. walk es w scope) (struct_walk {A = TypeWalk} {B = MemberWalk} (λ t es w scope. struct_type es w scope t)
    (λ n row es scope m. with_members es scope m row)
    (λ id x rest es w scope. entry_of es scope id >> λ e. opened w e (leaf_at id) >> λ o.
    with_member es (e + 1) (with_members_of o.lowered no_members) x >> λ m. rest es (e + 1) m >> struct_close id o)
    (λ es scope m. Ok m) (λ x rest es scope m. with_member es scope m x >> λ next. rest es scope next)
    (λ xs es scope m. each (with_member es scope) m xs)
    (λ id p m shape row. refl) refl (λ n x row. refl) refl (λ x xs. refl) s)

-- ---- unions

abbrev pub union_close : Leaf → Numbered → Switch → Cases → Result Numbered BuildFault
union_close id o s c = union_defined s c o.number (leaf_at id) >> λ behind. Ok (already behind o.number)

abbrev pub union_more : List Entry → Leaf → List Case → ℕ → Numbered → Switch → Cases → Result Numbered BuildFault
union_more es id rest e o s c = each (with_case_of es (e + 1) s) c rest >> union_close id o s

abbrev pub union_switched : List Entry → Leaf → Case → List Case → ℕ → Numbered → Switched → Result Numbered BuildFault
union_switched es id x rest e o s =
    with_case_of es (e + 1) s.switch (cases_of s.lowered no_arms) x >> union_more es id rest e o s.switch

abbrev pub union_open : List Entry → Leaf → SwitchType → Case → List Case → ℕ → Numbered → Result Numbered BuildFault
union_open es id switch x rest e o =
    switch_read es o.lowered (e + 1) (leaf_at id) switch >> union_switched es id x rest e o

abbrev pub union_in : List Entry → Lowered → Leaf → SwitchType → Case → List Case → ℕ → Result Numbered BuildFault
union_in es w id switch x rest e = opened w e (leaf_at id) >> union_open es id switch x rest e

abbrev pub union_all : List Entry → Lowered → ℕ → Leaf → SwitchType → Case → List Case → Result Numbered BuildFault
union_all es w scope id switch x rest = entry_of es scope id >> union_in es w id switch x rest

abbrev CaseWalk : Type 0
CaseWalk = List Entry → ℕ → Switch → Cases → Result Cases BuildFault

pub union_told : (es : List Entry) (w : Lowered) (scope : ℕ) (u : UnionType) → union_type es w scope u ≡
    union_all es w scope (out-UnionType u).identifier (out-UnionType u).switch.value (out-UnionType u).first.value
    (out-UnionType u).rest.items
union_told es w scope u =
    ap (λ walk. walk es w scope) (union_walk {A = TypeWalk} {B = CaseWalk} (λ t es w scope. union_type es w scope t)
    (λ n row es scope s c. with_cases es scope s c row)
    (λ id switch x rest es w scope. entry_of es scope id >> λ e. opened w e (leaf_at id) >> λ o.
    switch_read es o.lowered (e + 1) (leaf_at id) switch >> λ s.
    with_case_of es (e + 1) s.switch (cases_of s.lowered no_arms) x >> λ c. rest es (e + 1) s.switch c >> union_close id
    o s.switch)
    (λ es scope s c. Ok c) (λ x rest es scope s c. with_case_of es scope s c x >> λ next. rest es scope s next)
    (λ xs es scope s c. each (with_case_of es scope s) c xs)
    (λ id switch p c shape row. refl) refl (λ n x row. refl) refl (λ x xs. refl) u)

-- ---- how far a structure is read

abbrev pub id_of : StructType → Leaf
id_of s = (out-StructType s).identifier

abbrev pub first_of : StructType → Member
first_of s = (out-StructType s).first.value

abbrev pub rest_of : StructType → List Member
rest_of s = (out-StructType s).rest.items

pub struct_entered : (es : List Entry) (w : Lowered) (scope : ℕ) (s : StructType) (e : ℕ)
    → Ok e ≡ entry_of es scope (id_of s)
    → struct_type es w scope s ≡ struct_in es w (id_of s) (first_of s) (rest_of s) e
struct_entered es w scope s e told =
    struct_told es w scope s ∙ goes_on (entry_of es scope (id_of s)) e
    (struct_in es w (id_of s) (first_of s) (rest_of s)) (sym told)

pub struct_opened : (es : List Entry) (w : Lowered) (scope : ℕ) (s : StructType) (e : ℕ) (o : Numbered)
    → Ok e ≡ entry_of es scope (id_of s)
    → opened w e (leaf_at (id_of s)) ≡ Ok o → struct_type es w scope s
    ≡ struct_open es (id_of s) (first_of s) (rest_of s) e o
struct_opened es w scope s e o told opens =
    struct_entered es w scope s e told
    ∙ goes_on (opened w e (leaf_at (id_of s))) o (struct_open es (id_of s) (first_of s) (rest_of s) e) opens

pub first_member : (es : List Entry) (scope : ℕ) (w : Lowered) (ms : Members) (x y : Member) → ms ≡ no_members → x ≡ y
    → with_member es scope (with_members_of w no_members) y ≡ with_member es scope (with_members_of w ms) x
first_member es scope w ms x y none same =
    ap (λ m. with_member es scope (with_members_of w m) y) (sym none)
    ∙ ap (with_member es scope (with_members_of w ms)) (sym same)

pub struct_begun : (es : List Entry) (w : Lowered) (scope : ℕ) (s : StructType) (e : ℕ) (o : Numbered) (m : WithMembers)
    → Ok e ≡ entry_of es scope (id_of s)
    → opened w e (leaf_at (id_of s)) ≡ Ok o → with_member es (e + 1) (with_members_of o.lowered no_members) (first_of s)
    ≡ Ok m
    → struct_type es w scope s ≡ struct_more es (id_of s) (rest_of s) e o m
struct_begun es w scope s e o m told opens first =
    struct_opened es w scope s e o told opens
    ∙ goes_on (with_member es (e + 1) (with_members_of o.lowered no_members) (first_of s)) m
    (struct_more es (id_of s) (rest_of s) e o) first

pub struct_walked : (es : List Entry) (w : Lowered) (scope : ℕ) (s : StructType) (e : ℕ) (o : Numbered)
    (m n : WithMembers) → Ok e ≡ entry_of es scope (id_of s)
    → opened w e (leaf_at (id_of s)) ≡ Ok o → with_member es (e + 1) (with_members_of o.lowered no_members) (first_of s)
    ≡ Ok m
    → each (with_member es (e + 1)) m (rest_of s) ≡ Ok n → struct_type es w scope s ≡ struct_close (id_of s) o n
struct_walked es w scope s e o m n told opens first rest =
    struct_begun es w scope s e o m told opens first
    ∙ goes_on (each (with_member es (e + 1)) m (rest_of s)) n (struct_close (id_of s) o) rest

-- ---- how far a union is read

abbrev pub union_id : UnionType → Leaf
union_id u = (out-UnionType u).identifier

abbrev pub switch_of : UnionType → SwitchType
switch_of u = (out-UnionType u).switch.value

abbrev pub first_case : UnionType → Case
first_case u = (out-UnionType u).first.value

abbrev pub more_cases : UnionType → List Case
more_cases u = (out-UnionType u).rest.items

pub union_entered : (es : List Entry) (w : Lowered) (scope : ℕ) (u : UnionType) (e : ℕ)
    → Ok e ≡ entry_of es scope (union_id u)
    → union_type es w scope u ≡ union_in es w (union_id u) (switch_of u) (first_case u) (more_cases u) e
union_entered es w scope u e told =
    union_told es w scope u ∙ goes_on (entry_of es scope (union_id u)) e
    (union_in es w (union_id u) (switch_of u) (first_case u) (more_cases u)) (sym told)

pub union_opened : (es : List Entry) (w : Lowered) (scope : ℕ) (u : UnionType) (e : ℕ) (o : Numbered)
    → Ok e ≡ entry_of es scope (union_id u)
    → opened w e (leaf_at (union_id u)) ≡ Ok o → union_type es w scope u
    ≡ union_open es (union_id u) (switch_of u) (first_case u) (more_cases u) e o
union_opened es w scope u e o told opens =
    union_entered es w scope u e told
    ∙ goes_on (opened w e (leaf_at (union_id u))) o
    (union_open es (union_id u) (switch_of u) (first_case u) (more_cases u) e) opens

pub union_chosen : (es : List Entry) (w : Lowered) (scope : ℕ) (u : UnionType) (e : ℕ) (o : Numbered) (s : Switched)
    → Ok e ≡ entry_of es scope (union_id u)
    → opened w e (leaf_at (union_id u)) ≡ Ok o → switch_read es o.lowered (e + 1) (leaf_at (union_id u)) (switch_of u)
    ≡ Ok s
    → union_type es w scope u ≡ union_switched es (union_id u) (first_case u) (more_cases u) e o s
union_chosen es w scope u e o s told opens switches =
    union_opened es w scope u e o told opens
    ∙ goes_on (switch_read es o.lowered (e + 1) (leaf_at (union_id u)) (switch_of u)) s
    (union_switched es (union_id u) (first_case u) (more_cases u) e o) switches

pub first_cases : (es : List Entry) (scope : ℕ) (s : Switch) (w : Lowered) (a : Arms) (x y : Case) → a ≡ no_arms → x ≡ y
    → with_case_of es scope s (cases_of w no_arms) y ≡ with_case_of es scope s (cases_of w a) x
first_cases es scope s w a x y none same =
    ap (λ b. with_case_of es scope s (cases_of w b) y) (sym none)
    ∙ ap (with_case_of es scope s (cases_of w a)) (sym same)

pub union_begun : (es : List Entry) (w : Lowered) (scope : ℕ) (u : UnionType) (e : ℕ) (o : Numbered) (s : Switched)
    (c : Cases) → Ok e ≡ entry_of es scope (union_id u)
    → opened w e (leaf_at (union_id u)) ≡ Ok o → switch_read es o.lowered (e + 1) (leaf_at (union_id u)) (switch_of u)
    ≡ Ok s
    → with_case_of es (e + 1) s.switch (cases_of s.lowered no_arms) (first_case u) ≡ Ok c
    → union_type es w scope u ≡ union_more es (union_id u) (more_cases u) e o s.switch c
union_begun es w scope u e o s c told opens switches first =
    union_chosen es w scope u e o s told opens switches
    ∙ goes_on (with_case_of es (e + 1) s.switch (cases_of s.lowered no_arms) (first_case u)) c
    (union_more es (union_id u) (more_cases u) e o s.switch) first

pub union_walked : (es : List Entry) (w : Lowered) (scope : ℕ) (u : UnionType) (e : ℕ) (o : Numbered) (s : Switched)
    (c d : Cases) → Ok e ≡ entry_of es scope (union_id u)
    → opened w e (leaf_at (union_id u)) ≡ Ok o → switch_read es o.lowered (e + 1) (leaf_at (union_id u)) (switch_of u)
    ≡ Ok s
    → with_case_of es (e + 1) s.switch (cases_of s.lowered no_arms) (first_case u) ≡ Ok c
    → each (with_case_of es (e + 1) s.switch) c (more_cases u) ≡ Ok d
    → union_type es w scope u ≡ union_close (union_id u) o s.switch d
union_walked es w scope u e o s c d told opens switches first rest =
    union_begun es w scope u e o s c told opens switches first
    ∙ goes_on (each (with_case_of es (e + 1) s.switch) c (more_cases u)) d (union_close (union_id u) o s.switch) rest
