mod Invoking
