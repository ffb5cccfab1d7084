-- A queue: its number of links, its counters and every buffer's entries.
use Rattle.std.specs.Prelude.{ℕ, zero, suc, ◌+◌, ◌-◌, List, [], length, get_or, replicate}
use Rattle.rules.specs.declared.Rule.{Rule}
use Rattle.rules.specs.Entries.{the_rule, key_by}
use Rattle.rules.specs.Links.{buffer_count}
use Rattle.rules.specs.Tree.{Buffers}

pub record Queue : Type 0 where
  pub links : ℕ
  pub counters : List ℕ
  pub buffers : Buffers

-- the rule by which the queue orders entries, and its key
unfoldable pub rule_of : Queue → Rule
unfolding the_rule
rule_of q = the_rule

unfoldable pub key_of : Queue → ℕ → ℕ
unfolding key_by rule_of
key_of q = key_by (rule_of q)

-- the counter c(i), i from 1 on
unfoldable pub counter : Queue → ℕ → ℕ
counter q i = get_or q.counters (i - 1) 0

-- how many entries n buffers from number b on hold together
unfoldable pub held_from : ℕ → ℕ → Buffers → ℕ
held_from b zero bs = 0
held_from b (suc n) bs = length (get_or bs b []) + held_from (suc b) n bs

-- how many entries the queue holds
unfoldable pub held : Queue → ℕ
unfolding held_from buffer_count
held q = held_from 0 (buffer_count q.links) q.buffers

-- "Setup empties all buffers and makes every c equal to 1"
unfoldable pub fresh : ℕ → Queue
unfolding buffer_count
fresh links = record { links = links; counters = replicate links 1; buffers = replicate (buffer_count links) [] }
