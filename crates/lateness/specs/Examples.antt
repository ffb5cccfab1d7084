-- Lateness and reports, computed.
use Rattle.std.specs.Prelude.{◌≡◌, [], ◌∷◌, replicate, pos, negsuc, refl}
use Rattle.lateness.specs.Clock.{distance, lateness_of}
use Rattle.lateness.specs.Ordered.{put_in, in_order, numbered}
use Rattle.lateness.specs.Pairs.{pairs_of, of_door}
use Rattle.lateness.specs.Reports.{sum_of, hits, row_of, first_above, answer_of, report_of}

-- on the tick
exact : lateness_of 4294967295 4294967295 ≡ pos 0
unfolding lateness_of distance
exact = refl

-- one tick late, over the turn of the clock, and one early
after_turn : lateness_of 4294967295 0 ≡ pos 1
unfolding lateness_of distance
after_turn = refl

before_turn : lateness_of 0 4294967295 ≡ negsuc 0
unfolding lateness_of distance
before_turn = refl

-- 2,147,483,647
latest : lateness_of 5 2147483652 ≡ pos 2147483647
unfolding lateness_of distance
latest = refl

-- exactly half the clock, -2,147,483,648, from either side
half_clock : lateness_of 5 2147483653 ≡ negsuc 2147483647
unfolding lateness_of distance
half_clock = refl

half_clock_back : lateness_of 2147483653 5 ≡ negsuc 2147483647
unfolding lateness_of distance
half_clock_back = refl

-- left: 7, -12 and 40; right: the two ends; both: two exact hits, one late by 1 and one by 3, of which the lower median is 0
a_day : report_of (100 ∷ 200 ∷ 0 ∷ 300 ∷ 7 ∷ 7 ∷ 7 ∷ 2147483648 ∷ 7 ∷ []) (107 ∷ 188 ∷ 2147483647 ∷ 340 ∷ 7 ∷ 10 ∷ 8 ∷ 0 ∷ 7 ∷ []) (1 ∷ 1 ∷ 2 ∷ 1 ∷ 0 ∷ 0 ∷ 0 ∷ 2 ∷ 0 ∷ [])
    ≡ record {
      answer = 0;
      both = record { seen = record { count = 4; earliest = pos 0; latest = pos 3; sum = pos 4; exact = 2 }; median = pos 0 };
      left = record { seen = record { count = 3; earliest = negsuc 11; latest = pos 40; sum = pos 35; exact = 0 }; median = pos 7 };
      right = record { seen = record { count = 2; earliest = negsuc 2147483647; latest = pos 2147483647; sum = negsuc 0; exact = 0 }; median = negsuc 2147483647 };
    }
unfolding answer_of first_above pairs_of of_door lateness_of distance numbered in_order put_in sum_of hits
a_day = refl

-- no pairs, lists of different lengths, a door above 2
none : report_of [] [] [] ≡ record { answer = 0; both = row_of []; left = row_of []; right = row_of [] }
unfolding answer_of first_above pairs_of of_door
none = refl

all_zeros : row_of [] ≡ record { seen = record { count = 0; earliest = pos 0; latest = pos 0; sum = pos 0; exact = 0 }; median = pos 0 }
unfolding numbered in_order sum_of hits
all_zeros = refl

unequal : answer_of (1 ∷ []) [] (0 ∷ []) ≡ 10
unfolding answer_of
unequal = refl

door_above : answer_of (1 ∷ 1 ∷ []) (1 ∷ 1 ∷ []) (2 ∷ 3 ∷ []) ≡ 7
unfolding answer_of first_above
door_above = refl

-- 15 before 7, 10 before 15, and zeros
too_many : answer_of (replicate 4097 1) (replicate 4097 1) (replicate 4097 3) ≡ 15
unfolding answer_of first_above
too_many = refl

unequal_many : answer_of [] (replicate 4097 1) (replicate 4097 3) ≡ 10
unfolding answer_of first_above
unequal_many = refl

refused_zeros : report_of (1 ∷ []) (5 ∷ []) (3 ∷ []) ≡ record { answer = 7; both = row_of []; left = row_of []; right = row_of [] }
unfolding answer_of first_above pairs_of
refused_zeros = refl
