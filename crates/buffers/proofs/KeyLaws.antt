-- The queue that an array is has the array's key, and what leaves the book's front words alone leaves the rule.
use mathlib.Core.Path.{◌≡◌, refl, sym, ap, ◌∙◌}
use mathlib.Core.List.{List}
use Prim.Native.Nat.{ℕ}
use Rattle.rules.specs.declared.Rule.{Rule}
use Rattle.rules.specs.Entries.{key_by}
use Rattle.rules.specs.Queue.{rule_of, key_of}
use Rattle.rules.specs.Calls.{queue_of}
use Rattle.buffers.specs.Format.{rule_in, key_in, lent_of}
use Rattle.buffers.specs.Post.{Kept}

key_is : (ws : List ℕ) → key_of (queue_of (lent_of ws)) ≡ key_in ws
unfolding key_of rule_of rule_in
key_is ws = refl

-- so has whoever was given the array's rule
pub key_given : (ws : List ℕ) {rule : Rule} → rule ≡ rule_in ws → key_of (queue_of (lent_of ws)) ≡ key_by rule
key_given ws e = key_is ws ∙ sym (ap key_by e)

pub rule_kept : {ws ws' : List ℕ} → Kept ws ws' → rule_in ws' ≡ rule_in ws
unfolding rule_in
rule_kept kept = refl
