pub mod CommonRows
