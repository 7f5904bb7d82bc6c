-- What a table file is made of: octets, words, labels, flags, texts and lists. Each definition is a function from what
-- is spelled to its octets; it is None for what has no spelling. `a ++? b` is the one behind the other, where both are.
use Rattle.std.specs.Prelude.{ℕ, ◌^◌, ℤ, pos, negsuc, Bool, List, [], ◌∷◌, length, Option, Some, None, nat_lt, ◌==◌, if◌then◌else◌}
use Rattle.std.specs.Bool.{then_some}
use Rattle.std.specs.Fmt.{◌++?◌}
use Rattle.type_graph.specs.declared.width.Order.TheVariants.{Big}
use Rattle.type_graph.specs.Words.{plain_octets, octets_of}

abbrev pub spelled_octet : ℕ → Option (List ℕ)
spelled_octet n = then_some (nat_lt n 256) (n ∷ [])

-- 4 octets, the highest first
abbrev pub spelled_word : ℕ → Option (List ℕ)
spelled_word n = then_some (nat_lt n (2 ^ 32)) (plain_octets Big 4 n)

-- 16 octets, the highest first, in two's complement
abbrev pub spelled_label : ℤ → Option (List ℕ)
spelled_label (pos n) = then_some (nat_lt n (2 ^ 127)) (octets_of Big 16 (pos n))
spelled_label (negsuc n) = then_some (nat_lt n (2 ^ 127)) (octets_of Big 16 (negsuc n))

-- an octet 0 or 1
abbrev pub spelled_flag : Bool → Option (List ℕ)
spelled_flag flag = spelled_octet (if flag then 1 else 0)

-- a tag, the octet that says which of several it is, and what stands behind it
abbrev pub Tagged : Type 0
Tagged = ℕ × Option (List ℕ)

abbrev pub spelled_tagged : Tagged → Option (List ℕ)
spelled_tagged x = spelled_octet x.0 ++? x.1

-- a flag, and the number where there is one
abbrev pub tagged_maybe : Option ℕ → Tagged
tagged_maybe None = (0, Some [])
tagged_maybe (Some n) = (1, spelled_word n)

abbrev pub spelled_maybe : Option ℕ → Option (List ℕ)
spelled_maybe x = spelled_tagged (tagged_maybe x)

-- each as the function says, one behind the other
abbrev pub spelled_each : {A : Type 0} → (A → Option (List ℕ)) → List A → Option (List ℕ)
spelled_each spelled [] = Some []
spelled_each spelled (x ∷ xs) = spelled x ++? spelled_each spelled xs

-- how many there are, as a word, and each
abbrev pub spelled_list : {A : Type 0} → (A → Option (List ℕ)) → List A → Option (List ℕ)
spelled_list spelled xs = spelled_word (length xs) ++? spelled_each spelled xs

-- just so many, one behind the other
abbrev pub spelled_run : {A : Type 0} → ℕ → (A → Option (List ℕ)) → List A → Option (List ℕ)
spelled_run n spelled xs = if length xs == n then spelled_each spelled xs else None

-- two, one behind the other
abbrev pub spelled_pair : {A B : Type 0} → (A → Option (List ℕ)) → (B → Option (List ℕ)) → A × B → Option (List ℕ)
spelled_pair first second pair = first pair.0 ++? second pair.1

-- an octet of ASCII
abbrev pub spelled_ascii : ℕ → Option (List ℕ)
spelled_ascii n = then_some (nat_lt n 128) (n ∷ [])

-- a list of octets of ASCII
abbrev pub spelled_text : List ℕ → Option (List ℕ)
spelled_text = spelled_list spelled_ascii
