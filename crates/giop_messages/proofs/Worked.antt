-- Worked streams.
use Rattle.std.proofs.Common.{◌≡◌, ℕ, List, [], ◌∷◌, ◌++◌, take, None, Some, refl}
use Rattle.giop_messages.specs.declared.fault.FramingFault.TheVariants.{NotGiop, Version, TooLong, BadHead, BadFragment}
use Rattle.giop_messages.specs.Framing.{More, Broken, Piece, Whole, front, begun, cancels}

-- a request: number 1, key K, operation ping, no body
ping : List ℕ
ping =
    71 ∷ 73 ∷ 79 ∷ 80 ∷ 1 ∷ 2 ∷ 0 ∷ 0 ∷ 0 ∷ 0 ∷ 0 ∷ 36 ∷ 0 ∷ 0 ∷ 0 ∷ 1 ∷ 3 ∷ 0 ∷ 0 ∷ 0 ∷ 0 ∷ 0 ∷ 0 ∷ 0 ∷ 0 ∷ 0 ∷ 0 ∷
    1 ∷ 75 ∷ 0 ∷ 0 ∷ 0 ∷ 0 ∷ 0 ∷ 0 ∷ 5 ∷ 112 ∷ 105 ∷ 110 ∷ 103 ∷ 0 ∷ 0 ∷ 0 ∷ 0 ∷ 0 ∷ 0 ∷ 0 ∷ 0 ∷ []

-- the same in little order
ping_little : List ℕ
ping_little =
    71 ∷ 73 ∷ 79 ∷ 80 ∷ 1 ∷ 2 ∷ 1 ∷ 0 ∷ 36 ∷ 0 ∷ 0 ∷ 0 ∷ 1 ∷ 0 ∷ 0 ∷ 0 ∷ 3 ∷ 0 ∷ 0 ∷ 0 ∷ 0 ∷ 0 ∷ 0 ∷ 0 ∷ 1 ∷ 0 ∷ 0 ∷
    0 ∷ 75 ∷ 0 ∷ 0 ∷ 0 ∷ 5 ∷ 0 ∷ 0 ∷ 0 ∷ 112 ∷ 105 ∷ 110 ∷ 103 ∷ 0 ∷ 0 ∷ 0 ∷ 0 ∷ 0 ∷ 0 ∷ 0 ∷ 0 ∷ []

-- the same with number 2
ping_2 : List ℕ
ping_2 =
    71 ∷ 73 ∷ 79 ∷ 80 ∷ 1 ∷ 2 ∷ 0 ∷ 0 ∷ 0 ∷ 0 ∷ 0 ∷ 36 ∷ 0 ∷ 0 ∷ 0 ∷ 2 ∷ 3 ∷ 0 ∷ 0 ∷ 0 ∷ 0 ∷ 0 ∷ 0 ∷ 0 ∷ 0 ∷ 0 ∷ 0 ∷
    1 ∷ 75 ∷ 0 ∷ 0 ∷ 0 ∷ 0 ∷ 0 ∷ 0 ∷ 5 ∷ 112 ∷ 105 ∷ 110 ∷ 103 ∷ 0 ∷ 0 ∷ 0 ∷ 0 ∷ 0 ∷ 0 ∷ 0 ∷ 0 ∷ []

-- the request in two pieces
first : List ℕ
first =
    71 ∷ 73 ∷ 79 ∷ 80 ∷ 1 ∷ 2 ∷ 2 ∷ 0 ∷ 0 ∷ 0 ∷ 0 ∷ 12 ∷ 0 ∷ 0 ∷ 0 ∷ 1 ∷ 3 ∷ 0 ∷ 0 ∷ 0 ∷ 0 ∷ 0 ∷ 0 ∷ 0 ∷ []

-- its second piece
last : List ℕ
last =
    71 ∷ 73 ∷ 79 ∷ 80 ∷ 1 ∷ 2 ∷ 0 ∷ 7 ∷ 0 ∷ 0 ∷ 0 ∷ 28 ∷ 0 ∷ 0 ∷ 0 ∷ 1 ∷ 0 ∷ 0 ∷ 0 ∷ 1 ∷ 75 ∷ 0 ∷ 0 ∷ 0 ∷ 0 ∷ 0 ∷ 0 ∷
    5 ∷ 112 ∷ 105 ∷ 110 ∷ 103 ∷ 0 ∷ 0 ∷ 0 ∷ 0 ∷ 0 ∷ 0 ∷ 0 ∷ 0 ∷ []

-- the second piece of another request
strange : List ℕ
strange =
    71 ∷ 73 ∷ 79 ∷ 80 ∷ 1 ∷ 2 ∷ 0 ∷ 7 ∷ 0 ∷ 0 ∷ 0 ∷ 28 ∷ 0 ∷ 0 ∷ 0 ∷ 2 ∷ 0 ∷ 0 ∷ 0 ∷ 1 ∷ 75 ∷ 0 ∷ 0 ∷ 0 ∷ 0 ∷ 0 ∷ 0 ∷
    5 ∷ 112 ∷ 105 ∷ 110 ∷ 103 ∷ 0 ∷ 0 ∷ 0 ∷ 0 ∷ 0 ∷ 0 ∷ 0 ∷ 0 ∷ []

-- a cancel request for it
cancel : List ℕ
cancel =
    71 ∷ 73 ∷ 79 ∷ 80 ∷ 1 ∷ 2 ∷ 0 ∷ 2 ∷ 0 ∷ 0 ∷ 0 ∷ 4 ∷ 0 ∷ 0 ∷ 0 ∷ 1 ∷ []

whole_big : front None (ping ++ ping_2) ≡ Whole ping None ping_2
unfolding ping ping_2
whole_big = refl

whole_little : front None ping_little ≡ Whole ping_little None []
unfolding ping_little
whole_little = refl

-- a piece of it is no message yet
cut : front None (take 47 ping) ≡ More
unfolding ping
cut = refl

cut_in_its_head : front None (71 ∷ 73 ∷ 79 ∷ 81 ∷ 1 ∷ 2 ∷ 0 ∷ 0 ∷ 0 ∷ 0 ∷ 0 ∷ []) ≡ More
cut_in_its_head = refl

-- heads that are none, told at their 12 octets
other_letters : front None (71 ∷ 73 ∷ 79 ∷ 81 ∷ 1 ∷ 2 ∷ 0 ∷ 0 ∷ 0 ∷ 0 ∷ 0 ∷ 0 ∷ []) ≡ Broken NotGiop
other_letters = refl

older_version : front None (71 ∷ 73 ∷ 79 ∷ 80 ∷ 1 ∷ 0 ∷ 0 ∷ 0 ∷ 0 ∷ 0 ∷ 0 ∷ 0 ∷ []) ≡ Broken Version
older_version = refl

too_long : front None (71 ∷ 73 ∷ 79 ∷ 80 ∷ 1 ∷ 2 ∷ 0 ∷ 0 ∷ 0 ∷ 16 ∷ 0 ∷ 1 ∷ []) ≡ Broken TooLong
too_long = refl

longest : front None (71 ∷ 73 ∷ 79 ∷ 80 ∷ 1 ∷ 2 ∷ 0 ∷ 0 ∷ 0 ∷ 16 ∷ 0 ∷ 0 ∷ []) ≡ More
longest = refl

no_type : front None (71 ∷ 73 ∷ 79 ∷ 80 ∷ 1 ∷ 2 ∷ 0 ∷ 8 ∷ 0 ∷ 0 ∷ 0 ∷ 0 ∷ []) ≡ Broken BadHead
no_type = refl

reply_in_fragments : front None (71 ∷ 73 ∷ 79 ∷ 80 ∷ 1 ∷ 2 ∷ 2 ∷ 1 ∷ 0 ∷ 0 ∷ 0 ∷ 4 ∷ []) ≡ Broken BadHead
reply_in_fragments = refl

-- a head of version 1.1 between two requests
old_head : List ℕ
old_head = 71 ∷ 73 ∷ 79 ∷ 80 ∷ 1 ∷ 1 ∷ 0 ∷ 0 ∷ 0 ∷ 0 ∷ 0 ∷ 0 ∷ []

before_it : front None (ping ++ (old_head ++ ping)) ≡ Whole ping None (old_head ++ ping)
unfolding ping old_head
before_it = refl

old_version : front None (old_head ++ ping) ≡ Broken Version
unfolding ping old_head
old_version = refl

-- the other bits of the flags say nothing
all_other_flags : front None (71 ∷ 73 ∷ 79 ∷ 80 ∷ 1 ∷ 2 ∷ 252 ∷ 5 ∷ 0 ∷ 0 ∷ 0 ∷ 0 ∷ []) ≡ Whole
    (71 ∷ 73 ∷ 79 ∷ 80 ∷ 1 ∷ 2 ∷ 252 ∷ 5 ∷ 0 ∷ 0 ∷ 0 ∷ 0 ∷ []) None []
all_other_flags = refl

-- two pieces are the whole request
begins : front None (first ++ last) ≡ Piece (begun first) last
unfolding first last
begins = refl

ends : front (Some (begun first)) last ≡ Whole ping None []
unfolding first last ping
ends = refl

-- whole messages may come between the pieces
between : front (Some (begun first)) (ping_2 ++ last) ≡ Whole ping_2 (Some (begun first)) last
unfolding first last ping_2 cancels
between = refl

-- a cancel request drops the pieces that came
cancelled : front (Some (begun first)) cancel ≡ Whole cancel None []
unfolding first cancel cancels
cancelled = refl

-- broken rules of fragments
no_run : front None (take 12 last) ≡ Broken BadFragment
unfolding last
no_run = refl

of_another_request : front (Some (begun first)) strange ≡ Broken BadFragment
unfolding first strange
of_another_request = refl

told_when_it_is_whole : front (Some (begun first)) (take 39 strange) ≡ More
unfolding first strange
told_when_it_is_whole = refl

second_run : front (Some (begun first)) (take 12 first) ≡ Broken BadFragment
unfolding first
second_run = refl

no_multiple_of_8 : front None (71 ∷ 73 ∷ 79 ∷ 80 ∷ 1 ∷ 2 ∷ 2 ∷ 0 ∷ 0 ∷ 0 ∷ 0 ∷ 8 ∷ []) ≡ Broken BadFragment
no_multiple_of_8 = refl

without_a_number : front None (71 ∷ 73 ∷ 79 ∷ 80 ∷ 1 ∷ 2 ∷ 2 ∷ 0 ∷ 0 ∷ 0 ∷ 0 ∷ 0 ∷ []) ≡ Broken BadFragment
without_a_number = refl

of_another_order : front (Some (begun first)) (71 ∷ 73 ∷ 79 ∷ 80 ∷ 1 ∷ 2 ∷ 1 ∷ 7 ∷ 4 ∷ 0 ∷ 0 ∷ 0 ∷ []) ≡ Broken
    BadFragment
unfolding first
of_another_order = refl

-- all pieces together are at most as long as one message: 12 octets came, and of the next 4 are its number
together_too_long : front (Some (begun first)) (71 ∷ 73 ∷ 79 ∷ 80 ∷ 1 ∷ 2 ∷ 0 ∷ 7 ∷ 0 ∷ 15 ∷ 255 ∷ 249 ∷ []) ≡
    Broken BadFragment
unfolding first
together_too_long = refl

together_longest : front (Some (begun first)) (71 ∷ 73 ∷ 79 ∷ 80 ∷ 1 ∷ 2 ∷ 0 ∷ 7 ∷ 0 ∷ 15 ∷ 255 ∷ 248 ∷ []) ≡ More
unfolding first
together_longest = refl
