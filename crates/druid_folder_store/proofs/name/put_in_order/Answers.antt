use Rattle.druid_folder_store.proofs.Order.{put_in_order_is, put_in_order_from, put_in_order_to}
use Rattle.druid_folder_store.proofs.name.put_in_order.Goals as goal

pub returns-clause-order : goal.returns-clause-order
returns-clause-order c =
    put_in_order_is _ _ _ c.sort_unstable.ensures.permutation c.sort_unstable.ensures.sorted c.dedup.ensures.filtered

pub returns-clause-same : goal.returns-clause-same
returns-clause-same c name = (
  put_in_order_from _ _ _ c.sort_unstable.ensures.permutation c.sort_unstable.ensures.sorted c.dedup.ensures.filtered name,
  put_in_order_to _ _ _ c.sort_unstable.ensures.permutation c.sort_unstable.ensures.sorted c.dedup.ensures.filtered name,
)
