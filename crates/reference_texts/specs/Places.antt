-- Where an object is, as a corbaloc URL of one IIOP address says (CORBA Naming Service, object URLs: corbaloc):
-- `corbaloc:iiop:1.2@HOST:PORT/KEY`. The protocol may be left out, and so may the version and the port.
use Rattle.std.specs.Prelude.{◌≡◌, ℕ, ◌+◌, ◌*◌, Bool, ◌&&◌, ◌||◌, ◌==◌, nat_lt, if◌then◌else◌, List, [], ◌∷◌, length, Option, Some, None, option_map, codes}
use Rattle.std.specs.Char.{digit_value, is_ascii_alphanumeric, is_ascii_digit}
use Rattle.std.specs.List.{after_first, before_first, list_all, position_or_len}
use Rattle.std.specs.Option.{option_and_then}
use Rattle.std.specs.Str.{bytes_eq}
use Rattle.std.specs.Str.Parse.{digits_value}

pub record Place : Type 0 where
  pub host : List ℕ
  pub port : ℕ
  pub key : List ℕ

-- what stands before the first such octet and behind it, where there is one
abbrev pub cut : ℕ → List ℕ → Option (List ℕ × List ℕ)
cut mark text =
    if nat_lt (position_or_len (λ c. c == mark) text) (length text)
    then Some (before_first (λ c. c == mark) text, after_first (λ c. c == mark) text) else None

-- ---- the address

abbrev pub is_version : List ℕ → Bool
is_version word = bytes_eq word (codes "1.0") || bytes_eq word (codes "1.1") || bytes_eq word (codes "1.2")

-- an address without its version: what stands behind `@`, which may be left out
abbrev pub past_version : List ℕ → Option (List ℕ × List ℕ) → Option (List ℕ)
past_version address None = Some address
past_version address (Some (version, rest)) = if is_version version then Some rest else None

-- the octets of a name of DNS, or of an address of IPv4
abbrev pub is_of_host : ℕ → Bool
is_of_host c = is_ascii_alphanumeric c || c == 45 || c == 46 || c == 95

abbrev pub is_host : List ℕ → Bool
is_host host = nat_lt 0 (length host) && list_all is_of_host host

abbrev pub port_of : List ℕ → Option ℕ
port_of digits =
    if list_all is_ascii_digit digits && nat_lt 0 (length digits) && nat_lt (digits_value 10 digits) 65536
    then Some (digits_value 10 digits) else None

-- a host and a port, which is 2809 where it is left out
abbrev pub hosted : List ℕ → Option (List ℕ × List ℕ) → Option (List ℕ × ℕ)
hosted address None = if is_host address then Some (address, 2809) else None
hosted address (Some (host, digits)) =
    if is_host host then option_map (λ port. (host, port)) (port_of digits) else None

abbrev pub address_of : List ℕ → Option (List ℕ × ℕ)
address_of address = option_and_then (λ rest. hosted rest (cut 58 rest)) (past_version address (cut 64 address))

-- ---- the key

-- An octet stands for itself, or behind `%` as its two hexadecimal digits.
abbrev mutual
  pub key_of : List ℕ → Option (List ℕ)
  key_of [] = Some []
  key_of (c ∷ more) = if c == 37 then escaped more else option_map (λ key. c ∷ key) (key_of more)

  pub escaped : List ℕ → Option (List ℕ)
  escaped [] = None
  escaped (digit ∷ more) = if nat_lt (digit_value digit) 16 then escaped_low (digit_value digit) more else None

  pub escaped_low : ℕ → List ℕ → Option (List ℕ)
  escaped_low high [] = None
  escaped_low high (digit ∷ more) =
      if nat_lt (digit_value digit) 16
      then option_map (λ key. (16 * high + digit_value digit) ∷ key) (key_of more) else None

-- ---- the URL

abbrev pub is_protocol : List ℕ → Bool
is_protocol word = bytes_eq word [] || bytes_eq word (codes "iiop")

-- what stands behind the scheme and its colon; behind the protocol and its colon
abbrev pub past_scheme : Option (List ℕ × List ℕ) → Option (List ℕ)
past_scheme None = None
past_scheme (Some (word, rest)) = if bytes_eq word (codes "corbaloc") then Some rest else None

abbrev pub past_protocol : Option (List ℕ × List ℕ) → Option (List ℕ)
past_protocol None = None
past_protocol (Some (word, rest)) = if is_protocol word then Some rest else None

abbrev pub behind_protocol : List ℕ → Option (List ℕ)
behind_protocol text = option_and_then (λ rest. past_protocol (cut 58 rest)) (past_scheme (cut 58 text))

-- The text is the URL of the place.
pub record SpellsCorbaloc (text : List ℕ) (place : Place) : Type 0 where
  pub rest : List ℕ
  pub rest_is : behind_protocol text ≡ Some rest
  pub address : List ℕ
  pub key : List ℕ
  pub cut_is : cut 47 rest ≡ Some (address, key)
  pub address_is : address_of address ≡ Some (place.host, place.port)
  pub key_is : key_of key ≡ Some place.key
