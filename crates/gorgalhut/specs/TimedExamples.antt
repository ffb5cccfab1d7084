-- Reports into lent lists, computed.
use Rattle.std.specs.Prelude.{◌≡◌, refl, [], ◌∷◌, ◌++◌, replicate, pos, negsuc}
use Rattle.lateness.specs.Clock.{distance, lateness_of}
use Rattle.lateness.specs.Ordered.{put_in, in_order, numbered}
use Rattle.lateness.specs.Pairs.{pairs_of, of_door}
use Rattle.lateness.specs.Reports.{sum_of, hits, first_above, answer_of}
use Rattle.gorgalhut.specs.Timed.{timed_answer, timed_report}

-- room for seventeen: nothing is written
short : timed_report (1 ∷ []) (1 ∷ []) (0 ∷ []) (replicate 17 (pos 9)) ≡ replicate 17 (pos 9)
unfolding timed_report timed_answer
short = refl

-- nor of lists of different lengths
unequal : timed_report (1 ∷ []) [] (0 ∷ []) (replicate 18 (pos 9)) ≡ replicate 18 (pos 9)
unfolding timed_report timed_answer answer_of
unequal = refl

-- a door above 2: zeros, and what stands behind them is kept
zeros : timed_report (1 ∷ []) (1 ∷ []) (3 ∷ []) (replicate 19 (pos 9)) ≡ replicate 18 (pos 0) ++ (pos 9 ∷ [])
unfolding timed_report timed_answer answer_of first_above numbered in_order sum_of hits
zeros = refl

-- left early by 2 and late by 3, right on the tick
a_day : timed_report (9 ∷ 9 ∷ 9 ∷ []) (7 ∷ 12 ∷ 9 ∷ []) (1 ∷ 1 ∷ 2 ∷ []) (replicate 18 (pos 9)) ≡
    replicate 6 (pos 0) ++ (pos 2 ∷ negsuc 1 ∷ pos 3 ∷ pos 1 ∷ pos 0 ∷ negsuc 1 ∷ []) ++ (pos 1 ∷ pos 0 ∷ pos 0 ∷ pos 0 ∷ pos 1 ∷ pos 0 ∷ [])
unfolding timed_report timed_answer answer_of first_above pairs_of of_door lateness_of distance numbered in_order put_in sum_of hits
a_day = refl
