-- Where each set of labels stands in the table. Assumes nothing.
pub mod Row
pub mod Run
pub mod Edition
