use Rattle.cwr_remarks.proofs.JsonText.{item_is}
use Rattle.cwr_remarks.proofs.json_list.put_item.Goals as goal

pub returns : goal.returns
returns c =
    item_is c.args.out.now.items c.put_comma.new.out.items c.put_json_remark.new.out.items c.args.later c.args.remark.now c.in_ok-put_comma.ensures c.in_ok-put_json_remark.ensures
