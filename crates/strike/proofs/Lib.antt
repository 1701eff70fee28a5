pub mod Selections
pub mod Strikes
pub mod StrikeLaws
pub mod Rows
pub mod Columns
pub mod Results
